-- What the prover finds by itself, written down because edits that must fail open it.
use Rattle.std.proofs.Common.{rules}
use Rattle.resil_retry.proofs.script.Script.one.Goals as goal

pub returns : goal.returns
returns c = search rules
