-- The configuration of a retry: which outcomes it retries, and the wait after an attempt.
use Rattle.std.specs.Prelude.{ℕ, Bool}
use Rattle.resil_call.specs.declared.policy.RetryPolicy.{RetryPolicy}
use Rattle.resil_retry.specs.declared.interval.Backoff.{Backoff}
use Rattle.resil_retry.specs.declared.outcome.Outcome.{Outcome}
use Rattle.resil_retry.specs.declared.outcome_test.OutcomeTest.{OutcomeTest}
use Rattle.resil_retry.specs.declared.result_test.ResultTest.{ResultTest}
use Rattle.resil_retry.specs.ErrorTest.{ErrorTestView}
use Rattle.resil_retry.specs.Interval.{interval}
use Rattle.resil_retry.specs.OutcomeTest.{is_retried}

-- the maximum number of attempts of a retry, the first call included
abbrev pub attempt_limit : ℕ
attempt_limit = 1000

-- the parts of a configuration
pub record RetryConfigView : Type 0 where
  pub max_attempts : ℕ
  pub interval : Backoff
  pub result_test : ResultTest
  pub error_test : ErrorTestView
  pub fail_after_max : Bool

-- the policy of a retry by this configuration: how many attempts, after which waits and for which outcomes
abbrev pub policy_of : RetryConfigView → RetryPolicy Backoff OutcomeTest
policy_of settings = record {
  max_attempts = settings.max_attempts;
  backoff = settings.interval;
  retry_on = record { result_test = settings.result_test; error_test = settings.error_test };
}

-- the outcome is to be retried
abbrev pub again : RetryConfigView → Outcome → Bool
again settings outcome = is_retried (policy_of settings).retry_on outcome

-- the wait after attempt k
abbrev pub wait_after : RetryConfigView → ℕ → ℕ
wait_after settings k = interval settings.interval k
