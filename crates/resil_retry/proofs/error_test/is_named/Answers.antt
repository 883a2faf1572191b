-- What the prover finds by itself, written down because edits that must fail open it.
use Rattle.std.proofs.Common.{rules}
use Rattle.resil_retry.proofs.error_test.is_named.Goals as goal

pub returns-then-is_empty : goal.returns-then-is_empty
returns-then-is_empty c = search rules

pub returns-else-is_empty : goal.returns-else-is_empty
returns-else-is_empty c = search rules
