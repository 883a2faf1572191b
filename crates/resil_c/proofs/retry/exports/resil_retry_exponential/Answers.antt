-- What the prover finds by itself, written down because edits that must fail open it.
use Rattle.std.proofs.Common.{rules}
use Rattle.resil_c.proofs.retry.exports.resil_retry_exponential.Goals as goal

pub returns-clause-cap_below_initial : goal.returns-clause-cap_below_initial
returns-clause-cap_below_initial c = search rules
