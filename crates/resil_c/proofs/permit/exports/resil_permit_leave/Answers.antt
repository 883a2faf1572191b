-- What the prover finds by itself, written down because edits that must fail open it.
use Rattle.std.proofs.Common.{rules}
use Rattle.resil_c.proofs.permit.exports.resil_permit_leave.Goals as goal

pub returns-then-gave-clause-none : goal.returns-then-gave-clause-none
returns-then-gave-clause-none c = search rules

pub returns-else-gave-clause-gave : goal.returns-else-gave-clause-gave
returns-else-gave-clause-gave c = search rules

pub returns-else-gave-clause-held : goal.returns-else-gave-clause-held
returns-else-gave-clause-held c = search rules
