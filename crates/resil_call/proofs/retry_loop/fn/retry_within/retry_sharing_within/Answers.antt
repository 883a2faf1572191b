-- What the prover finds by itself, written down because edits that must fail open it.
use Rattle.std.proofs.Common.{rules}
use Rattle.resil_call.proofs.retry_loop.fn.retry_within.retry_sharing_within.Goals as goal

pub returns : goal.returns
returns g c = search rules
