use Rattle.std.proofs.Common.{◌≡◌, ◌-◌, ◌+◌, ◌*◌}
use Rattle.resil_retry.specs.Retry.{retry_from, retried}
use Rattle.resil_decor.specs.Grants.{permits_of, call_at}
use Rattle.resil_decor.proofs.RecountLaws.{answer_of}
use Rattle.resil_decor.proofs.grants.Recount.+recount.Given as goal

abbrev pub decreases-call_through : goal.decreases-call_through
decreases-call_through l = 2 * l.depth

abbrev pub decreases-call_with_bulkhead : goal.decreases-call_with_bulkhead
decreases-call_with_bulkhead l = 2 * l.inside + 1

abbrev pub decreases-call_with_retry : goal.decreases-call_with_retry
decreases-call_with_retry l = 2 * l.inside + 1

-- the attempts that are left give what all of them give
abbrev pub invariant-call_with_retry-loop-attempt : goal.invariant-call_with_retry-loop-attempt
invariant-call_with_retry-loop-attempt l =
    answer_of (retry_from l.config (call_at (permits_of l.self.bulkheads.now) l.self.layers.now l.inside) (l.config.max_attempts - l._attempt) l._attempt l.left)
    ≡ answer_of (retried l.config (call_at (permits_of l.self.bulkheads.now) l.self.layers.now l.inside) l.fn.left)
