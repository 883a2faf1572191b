-- What the prover finds by itself, written down because edits that must fail open it.
use Rattle.std.proofs.Common.{rules}
use Rattle.resil_c.proofs.permit.exports.resil_permit_try_once.Goals as goal

pub returns-in-Full-clause-taken : goal.returns-in-Full-clause-taken
returns-in-Full-clause-taken c = search rules

pub returns-in-Full-clause-held : goal.returns-in-Full-clause-held
returns-in-Full-clause-held c = search rules
