-- The outcome of a call with retries, by its attempts (Resilience4j user guide, Micrometer: the label `kind` of the retry's calls).
use Rattle.std.specs.Prelude.{Bool, true, false, Result, Ok, Err, nat_lt, if◌then◌else◌}
use Rattle.resil_call.specs.declared.tried.End.{End}
use Rattle.resil_call.specs.declared.tried.End.TheVariants.{Accepted, Exhausted, OutOfTime}
use Rattle.resil_call.specs.declared.tried.Tried.{Tried}
use Rattle.resil_layers.specs.Counting.{one_more}
use Rattle.resil_layers.specs.declared.retry_counts.OwnRetryCounts.{OwnRetryCounts}
use Rattle.resil_layers.specs.declared.retry_counts.RetryKind.{RetryKind}
use Rattle.resil_layers.specs.declared.retry_counts.RetryKind.TheVariants.{SuccessfulWithoutRetry, SuccessfulWithRetry, FailedWithoutRetry, FailedWithRetry}

-- the last answer isn't to be tried again
abbrev pub is_accepted : End → Bool
is_accepted Accepted = true
is_accepted _ = false

-- a value that isn't to be tried again is a success, and anything else a failure
abbrev pub is_success : {T E : Type 0} → Result T E → End → Bool
is_success (Ok _) end = is_accepted end
is_success (Err _) end = false

abbrev pub kind_of : Bool → Bool → RetryKind
kind_of true retried = if retried then SuccessfulWithRetry else SuccessfulWithoutRetry
kind_of false retried = if retried then FailedWithRetry else FailedWithoutRetry

-- by the last answer, and by whether there was more than one attempt
abbrev pub retry_kind : {T E : Type 0} → Tried (Result T E) → RetryKind
retry_kind tried = kind_of (is_success tried.answer tried.end) (nat_lt 1 tried.attempts)

-- the counts with one more of this kind
abbrev pub with_kind : OwnRetryCounts → RetryKind → OwnRetryCounts
with_kind counts SuccessfulWithoutRetry = record counts { successful_without_retry = one_more counts.successful_without_retry }
with_kind counts SuccessfulWithRetry = record counts { successful_with_retry = one_more counts.successful_with_retry }
with_kind counts FailedWithoutRetry = record counts { failed_without_retry = one_more counts.failed_without_retry }
with_kind counts FailedWithRetry = record counts { failed_with_retry = one_more counts.failed_with_retry }

-- and with one more that ended this way, if no more attempts were made although the last answer is to be tried again
abbrev pub with_end : OwnRetryCounts → End → OwnRetryCounts
with_end counts Accepted = counts
with_end counts Exhausted = record counts { exhausted = one_more counts.exhausted }
with_end counts OutOfTime = record counts { out_of_time = one_more counts.out_of_time }
