use Rattle.resil_simulate.proofs.Words.{◌∙◌, length, sym, arith, take_all, IsLegalSomewhere}
use Rattle.resil_simulate.proofs.LegalityLaws.{no_events, some_events}
use Rattle.resil_simulate.proofs.legality.first_illegal.Goals as goal

pub loop-legal-init : goal.loop-legal-init
loop-legal-init c =
    let events = c.args.events.now in
    let illegal : ¬ IsLegalSomewhere events = λ legal. absurd (cc (sym c.if-branch.false ∙ c.in_ok-is_legal.ensures.1 legal)) in
    record { order = (some_events events illegal, omega arith); before = no_events; here = rw (take_all (length events) events (omega arith)) illegal }
