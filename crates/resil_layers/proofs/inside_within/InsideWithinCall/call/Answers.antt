use Rattle.std.proofs.Common.{refl, rules, Ok, Err}
use Rattle.resil_permit.proofs.Waits.{waited_by}
use Rattle.resil_layers.proofs.inside_within.InsideWithinCall.call.Goals as goal

pub returns-clause-answer : goal.returns-clause-answer
returns-clause-answer g c =
    let (waited, by, executed) = c.in_ok-call_within.ensures.by_the_clock in
    let has = waited_by _ _ _ _ _ _ by in
    (Ok c.in_ok-call_within.field-0, waited, refl, search, search, executed, refl)

pub returns-in_err-call_within-clause-answer : goal.returns-in_err-call_within-clause-answer
returns-in_err-call_within-clause-answer g c =
    let (waited, by, refused) = c.in_err-call_within.ensures.by_the_clock in
    let has = waited_by _ _ _ _ _ _ by in
    (Err _, waited, refl, search, search, refused, search rules)
