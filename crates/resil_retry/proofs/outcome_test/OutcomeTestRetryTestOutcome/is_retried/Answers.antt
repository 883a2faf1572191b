-- What the prover finds by itself, written down because edits that must fail open it.
use Rattle.std.proofs.Common.{rules}
use Rattle.resil_retry.proofs.outcome_test.OutcomeTestRetryTestOutcome.is_retried.Goals as goal

pub returns-in-Value : goal.returns-in-Value
returns-in-Value c = search rules
