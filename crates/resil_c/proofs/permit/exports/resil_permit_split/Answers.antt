-- What the prover finds by itself, written down because edits that must fail open it.
use Rattle.std.proofs.Common.{rules}
use Rattle.resil_c.proofs.permit.exports.resil_permit_split.Goals as goal

pub returns-clause-back : goal.returns-clause-back
returns-clause-back c = search rules

pub returns-clause-source : goal.returns-clause-source
returns-clause-source c = search rules
