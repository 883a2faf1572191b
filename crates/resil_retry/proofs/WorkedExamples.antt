-- The definitions at worked examples.
use Rattle.std.proofs.Common.{◌≡◌, [], ◌∷◌, map, pos, Some, false, refl}
use Rattle.resil_retry.specs.declared.interval.Backoff.TheVariants.{Fixed, Exponential}
use Rattle.resil_retry.specs.declared.outcome.Ending.TheVariants.{Later, Ignored, Exhausted}
use Rattle.resil_retry.specs.declared.outcome.Kind.TheVariants.{Code}
use Rattle.resil_retry.specs.declared.outcome.Outcome.TheVariants.{Value, Error}
use Rattle.resil_retry.specs.declared.result_test.ResultTest.TheVariants.{Never}
use Rattle.resil_retry.specs.Config.{RetryConfigView}
use Rattle.resil_retry.specs.Interval.{interval, uncapped_wait}
use Rattle.resil_retry.specs.Retry.{retry_of, retry_from}

-- 500 ms at 3/2, truncated at each step: one division at the end would give 2531
waits_at_three_halves : map (interval (Exponential 500 3 2 31536000000)) (1 ∷ 2 ∷ 3 ∷ 4 ∷ 5 ∷ []) ≡ 500 ∷ 750 ∷ 1125 ∷ 1687 ∷ 2530 ∷ []
unfolding uncapped_wait
waits_at_three_halves = refl

-- three attempts, 500 ms between them, and the error 2 ignored
three_attempts : RetryConfigView
three_attempts = record {
  max_attempts = 3;
  interval = Fixed 500;
  result_test = Never;
  error_test = record { named = []; ignored = Code 2 ∷ [] };
  fail_after_max = false;
}

-- an error, and then a value
value_at_second_call : retry_of three_attempts (Error (Code 1) ∷ Value (pos 7) ∷ [])
    ≡ Some (record { outcome = Value (pos 7); ending = Later; calls = 2; waits = 500 ∷ []; after = Value (pos 7) ∷ [] })
unfolding retry_from three_attempts
value_at_second_call = refl

-- an error at each call
error_at_each_call : retry_of three_attempts (Error (Code 1) ∷ [])
    ≡ Some (record { outcome = Error (Code 1); ending = Exhausted; calls = 3; waits = 500 ∷ 500 ∷ []; after = Error (Code 1) ∷ [] })
unfolding retry_from three_attempts
error_at_each_call = refl

-- an error that is ignored
ignored_error : retry_of three_attempts (Error (Code 2) ∷ [])
    ≡ Some (record { outcome = Error (Code 2); ending = Ignored; calls = 1; waits = []; after = Error (Code 2) ∷ [] })
unfolding retry_from three_attempts
ignored_error = refl
