-- What the prover finds by itself, written down because edits that must fail open it.
use Rattle.std.proofs.Common.{rules}
use Rattle.resil_decor.proofs.layer_calls.fallback_outcome.Goals as goal

pub returns-in-Error : goal.returns-in-Error
returns-in-Error c = search rules
