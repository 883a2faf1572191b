use Rattle.resil_retry.proofs.CallLaws.{Done-accepted, Done-gave_up}
use Rattle.resil_retry.proofs.callee.retry.Goals as goal

pub returns-in-Accepted : goal.returns-in-Accepted
returns-in-Accepted g c =
    let done = Done-accepted g.C.Callee.script g.C.Call.IsAnswer g.met.C.Callee.answers c.args.config.now _ _ _ _ _ (rw c.policy.ensures.value at c.policy.ensures.least) (rw c.policy.ensures.value at c.retry-tried.ensures.retried) c.in-Accepted.is in
    record { answer = rw c.ending_at.ensures done.answer; waits = done.waits; room = done.room; calls = done.calls; callee = done.callee }

pub returns-in-Exhausted : goal.returns-in-Exhausted
returns-in-Exhausted g c =
    let done = Done-gave_up g.C.Callee.script g.C.Call.IsAnswer g.met.C.Callee.answers c.args.config.now _ _ _ _ _ (rw c.policy.ensures.value at c.policy.ensures.least) (rw c.policy.ensures.value at c.retry-tried.ensures.retried) c.in-Exhausted.is in
    record { answer = rw c.exhausted_outcome.ensures done.answer; waits = done.waits; room = done.room; calls = done.calls; callee = done.callee }
