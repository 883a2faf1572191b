-- What the prover finds by itself, written down because edits that must fail open it.
use Rattle.std.proofs.Common.{rules}
use Rattle.resil_c.proofs.permit.exports.resil_permit_available.Goals as goal

pub returns-clause-free : goal.returns-clause-free
returns-clause-free c = search rules
