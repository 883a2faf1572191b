use Rattle.resil_simulate.proofs.Words.{◌∙◌, ap, length, plan_of, rules, subst, sym, AreShown}
use Rattle.resil_simulate.proofs.CommandLaws.{arrivals-refused, head-refused}
use Rattle.resil_simulate.proofs.command.read_load.Goals as goal

pub returns-in-Err : goal.returns-in-Err
returns-in-Err c = head-refused c.args.shown c.args.input.now c.in-Err.why c.in-Err.ensures

pub returns-in-Err-read_arrivals : goal.returns-in-Err-read_arrivals
returns-in-Err-read_arrivals c =
    arrivals-refused (plan_of c.in-Ok.read.0) c.in-Ok.read.1.now c.args.shown c.args.input.now c.in-Ok.ensures (search (rules, c.are_shown.ensures, c.if-not-are_shown, c.deref.ensures)) c.in-Err-read_arrivals.why c.in-Err-read_arrivals.ensures

pub returns-then-not-are_shown : goal.returns-then-not-are_shown
returns-then-not-are_shown c =
    (plan_of c.in-Ok.read.0, c.in-Ok.read.1.now, c.in-Ok.ensures, λ shown. absurd (cc (sym c.if-not-are_shown.true ∙ c.are_shown.ensures.1 (subst (λ n. AreShown c.args.shown n) (sym (ap length c.deref.ensures.value)) shown))))
