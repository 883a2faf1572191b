-- The retry rule (Resilience4j user guide, Retry), over any call that can be retried.
use Rattle.std.specs.Prelude.{ℕ, zero, suc, ◌+◌, ◌-◌, ◌==◌, List, [], ◌∷◌, ◌++◌, Option, Some, option_map, option_and_then, if◌then◌else◌}
use Rattle.resil_retry.specs.declared.outcome.Ending.{Ending}
use Rattle.resil_retry.specs.declared.outcome.Ending.TheVariants.{First, Later, Ignored, Exhausted}
use Rattle.resil_retry.specs.declared.outcome.Kind.TheVariants.{Exceeded}
use Rattle.resil_retry.specs.declared.outcome.Outcome.{Outcome}
use Rattle.resil_retry.specs.declared.outcome.Outcome.TheVariants.{Value, Error}
use Rattle.resil_retry.specs.Config.{RetryConfigView, again, wait_after}
use Rattle.resil_retry.specs.Script.{first, rest}

-- the result of one call: its outcome, how many calls of the innermost function it made, the waits
-- inside it in their order, and the state that it leaves
pub record CallResult (S : Type 0) : Type 0 where
  pub outcome : Outcome
  pub calls : ℕ
  pub waits : List ℕ
  pub after : S

-- the result of a retry: its outcome, how it ended, how many calls of the innermost function it
-- made, its waits in their order, and the state that it leaves
pub record RetryResult (S : Type 0) : Type 0 where
  pub outcome : Outcome
  pub ending : Ending
  pub calls : ℕ
  pub waits : List ℕ
  pub after : S

-- the result of a retry as the result of one call, for a layer around it
abbrev pub as_call : {S : Type 0} → RetryResult S → CallResult S
as_call r = record { outcome = r.outcome; calls = r.calls; waits = r.waits; after = r.after }

-- how a retry ends at attempt k with an outcome that isn't to be retried
abbrev pub ending_at : ℕ → Outcome → Ending
ending_at k (Value _) = if k == 1 then First else Later
ending_at k (Error _) = Ignored

-- what a retry returns if no attempt is left and the outcome is still to be retried
abbrev pub exhausted_outcome : RetryConfigView → Outcome → Outcome
exhausted_outcome settings (Value value) = if settings.fail_after_max then Error Exceeded else Value value
exhausted_outcome settings (Error kind) = Error kind

-- the retry's result if attempt k had this result and its outcome isn't to be retried
abbrev pub stopped : {S : Type 0} → ℕ → CallResult S → RetryResult S
stopped k c = record { outcome = c.outcome; ending = ending_at k c.outcome; calls = c.calls; waits = c.waits; after = c.after }

-- the retry's result if the last attempt had this result and its outcome is still to be retried
abbrev pub exhausted : {S : Type 0} → RetryConfigView → CallResult S → RetryResult S
exhausted settings c = record { outcome = exhausted_outcome settings c.outcome; ending = Exhausted; calls = c.calls; waits = c.waits; after = c.after }

-- a retry's result with these calls and waits added before it
abbrev pub prepend : {S : Type 0} → ℕ → List ℕ → RetryResult S → RetryResult S
prepend calls waits r = record r { calls = calls + r.calls; waits = waits ++ r.waits }

-- the retry's result if attempt k is the last one and had this result
abbrev pub last_attempt : {S : Type 0} → RetryConfigView → ℕ → CallResult S → RetryResult S
last_attempt settings k c = if again settings c.outcome then exhausted settings c else stopped k c

-- the retry's result if attempt k had this result, and `next` is the result from the next attempt on
abbrev pub attempt : {S : Type 0} → RetryConfigView → ℕ → CallResult S → Option (RetryResult S) → Option (RetryResult S)
attempt settings k c next =
    if again settings c.outcome then option_map (prepend c.calls (c.waits ++ wait_after settings k ∷ [])) next
    else Some (stopped k c)

-- the retry from attempt k on, with this number of attempts left after it; None if a call has no value
unfoldable pub retry_from : {S : Type 0} → RetryConfigView → (S → Option (CallResult S)) → ℕ → ℕ → S → Option (RetryResult S)
retry_from settings call zero k s = option_map (last_attempt settings k) (call s)
retry_from settings call (suc left) k s =
    option_and_then (λ c. attempt settings k c (retry_from settings call left (suc k) c.after)) (call s)

-- the retry of a call from a state
abbrev pub retried : {S : Type 0} → RetryConfigView → (S → Option (CallResult S)) → S → Option (RetryResult S)
retried settings call s = retry_from settings call (settings.max_attempts - 1) 1 s

-- one call of a function with a script
abbrev pub scripted : List Outcome → Option (CallResult (List Outcome))
scripted script = option_map (λ outcome. record { outcome = outcome; calls = 1; waits = []; after = rest script }) (first script)

-- the retry of a function with a script
abbrev pub retry_of : RetryConfigView → List Outcome → Option (RetryResult (List Outcome))
retry_of settings script = retried settings scripted script
