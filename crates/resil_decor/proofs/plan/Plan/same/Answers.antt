-- What the prover finds by itself, written down because edits that must fail open it.
use Rattle.std.proofs.Common.{rules}
use Rattle.resil_decor.proofs.plan.Plan.same.Goals as goal

pub returns-then-same : goal.returns-then-same
returns-then-same c = search rules
