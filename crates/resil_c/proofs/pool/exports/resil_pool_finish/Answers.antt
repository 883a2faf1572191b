-- What the prover finds by itself, written down because edits that must fail open it.
use Rattle.std.proofs.Common.{rules}
use Rattle.resil_c.proofs.pool.exports.resil_pool_finish.Goals as goal

pub returns-else-finished-clause-out : goal.returns-else-finished-clause-out
returns-else-finished-clause-out c = search rules

pub returns-else-finished-clause-event : goal.returns-else-finished-clause-event
returns-else-finished-clause-event c = search rules

pub returns-else-finished-clause-follows : goal.returns-else-finished-clause-follows
returns-else-finished-clause-follows c = search rules
