use Rattle.std.proofs.Common.{ℕ, ◌≡◌, ◌<◌, ◌+◌, ◌-◌, suc}
use Rattle.resil_call.specs.Sharing.{CanCallAt, CanTry, IsAnswerAt}
use Rattle.resil_call.proofs.RetryLaws.{SoFar}
use Rattle.resil_call.proofs.retry_loop.retry_sharing_within.Given as goal

abbrev pub invariant-loop-answer : goal.invariant-loop-answer
invariant-loop-answer g l =
    SoFar (IsAnswerAt (goal.F-post g l.call)) (g.A.RetryTest.IsVerdict l.policy.retry_on) (g.B.BackoffFor.IsWaitFor l.policy.backoff) g.S.Pause.IsPaused g.L.WaitLimit.IsAllowed l.policy.max_attempts
    l.fn.shared l.shared l.fn.limit l.limit l.attempt
    × ((left : ℕ) × (left + l.attempt ≡ l.policy.max_attempts) × CanTry (CanCallAt (goal.F-pre g l.call)) (IsAnswerAt (goal.F-post g l.call)) g.S.Pause.HasRoom g.S.Pause.IsPaused (suc left) l.shared)
    × (1 < l.attempt → g.B.BackoffFor.HasSaid l.policy.backoff (l.attempt - 1) l.wait)

abbrev pub decreases-loop-answer : goal.decreases-loop-answer
decreases-loop-answer g l = l.policy.max_attempts - l.attempt
