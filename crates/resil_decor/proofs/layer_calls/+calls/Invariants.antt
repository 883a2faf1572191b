use Rattle.std.proofs.Common.{◌*◌, ◌+◌, length}
use Rattle.resil_decor.proofs.layer_calls.+calls.Given as goal

abbrev pub decreases-call_through : goal.decreases-call_through
decreases-call_through g l = 3 * length l.layers.now

abbrev pub decreases-call_with_retry : goal.decreases-call_with_retry
decreases-call_with_retry g l = 3 * length l.inside.now + 2

abbrev pub decreases-call_with_retry-retry_sharing : goal.decreases-call_with_retry-retry_sharing
decreases-call_with_retry-retry_sharing g l = 3 * length l.inside.now + 1

abbrev pub decreases-call_with_bulkhead : goal.decreases-call_with_bulkhead
decreases-call_with_bulkhead g l = 3 * length l.inside.now + 1
