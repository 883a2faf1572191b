-- What the prover finds by itself, written down because edits that must fail open it.
use Rattle.std.proofs.Common.{rules}
use Rattle.resil_decor.proofs.chain.Chain.new.Goals as goal

pub invariant_of-result : goal.invariant_of-result
invariant_of-result c = search rules

pub returns-then-is_none-clause-refused : goal.returns-then-is_none-clause-refused
returns-then-is_none-clause-refused c = search rules

pub returns-clause-allowed : goal.returns-clause-allowed
returns-clause-allowed c = search rules
