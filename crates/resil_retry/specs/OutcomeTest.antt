-- Which outcomes an outcome test retries.
use Rattle.std.specs.Prelude.{Bool}
use Rattle.resil_retry.specs.declared.outcome.Outcome.{Outcome}
use Rattle.resil_retry.specs.declared.outcome.Outcome.TheVariants.{Value, Error}
use Rattle.resil_retry.specs.declared.outcome_test.OutcomeTest.{OutcomeTest}
use Rattle.resil_retry.specs.ErrorTest.{names}
use Rattle.resil_retry.specs.ResultTest.{matches}

-- the outcome is to be retried
abbrev pub is_retried : OutcomeTest → Outcome → Bool
is_retried test (Value value) = matches test.result_test value
is_retried test (Error kind) = names test.error_test kind
