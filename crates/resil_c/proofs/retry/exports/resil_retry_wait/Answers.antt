-- What the prover finds by itself, written down because edits that must fail open it.
use Rattle.std.proofs.Common.{rules}
use Rattle.resil_c.proofs.retry.exports.resil_retry_wait.Goals as goal

pub returns-clause-wait : goal.returns-clause-wait
returns-clause-wait c = search rules

pub returns-in_default-clause-empty : goal.returns-in_default-clause-empty
returns-in_default-clause-empty c = search rules

pub returns-in_default-clause-wait : goal.returns-in_default-clause-wait
returns-in_default-clause-wait c = search rules

pub returns-in_default-clause-limit : goal.returns-in_default-clause-limit
returns-in_default-clause-limit c = search rules

pub returns-in_default-clause-no_attempt : goal.returns-in_default-clause-no_attempt
returns-in_default-clause-no_attempt c = search rules
