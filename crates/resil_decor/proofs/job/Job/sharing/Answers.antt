-- What the prover finds by itself, written down because edits that must fail open it.
use Rattle.std.proofs.Common.{rules}
use Rattle.resil_decor.proofs.job.Job.sharing.Goals as goal

pub invariant_of-result : goal.invariant_of-result
invariant_of-result c = search rules
