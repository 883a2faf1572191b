-- The retry rule attempt by attempt, over any call, and a retry of a script as far as it has come.
use Rattle.std.proofs.Common.{◌≡◌, ◌≢◌, ◌≤◌, ◌+◌, ◌-◌, ◌∙◌, ◌++◌, ◌∷◌, [], ℕ, zero, suc, List, length, Option, Some, None, option_map, IsSomeAnd, true, false, refl, ap, sym, arith, append_assoc, append-nil, add_assoc, add-one, zero-add, length-append}
use Rattle.resil_retry.specs.declared.outcome.Ending.{Ending}
use Rattle.resil_retry.specs.declared.outcome.Ending.TheVariants.{Exhausted}
use Rattle.resil_retry.specs.declared.outcome.Outcome.{Outcome}
use Rattle.resil_retry.specs.Config.{RetryConfigView, again, wait_after}
use Rattle.resil_retry.specs.Retry.{CallResult, RetryResult, retry_from, retry_of, scripted, stopped, exhausted, prepend, ending_at, exhausted_outcome}
use Rattle.resil_retry.specs.Script.{first, rest}
use Rattle.resil_retry.specs.Waits.{WaitsView}

-- nothing before a retry
pub prepend-nothing : {S : Type 0} (r : Option (RetryResult S)) → option_map (prepend 0 []) r ≡ r
prepend-nothing None = refl
prepend-nothing (Some r) = ap (λ n. Some (record r { calls = n })) (zero-add r.calls)

-- calls and waits before others
pub prepend-prepend : {S : Type 0} (a b : ℕ) (xs ys : List ℕ) (r : Option (RetryResult S))
    → option_map (prepend a xs) (option_map (prepend b ys) r) ≡ option_map (prepend (a + b) (xs ++ ys)) r
prepend-prepend a b xs ys None = refl
prepend-prepend a b xs ys (Some r) =
    rw (add_assoc a b r.calls, append_assoc xs ys r.waits) refl

module _ {S : Type 0} (settings : RetryConfigView) (call : S → Option (CallResult S)) where
  -- a call without a value
  pub retry_from-none : (left k : ℕ) (s : S) → call s ≡ None → retry_from settings call left k s ≡ None
  unfolding retry_from
  retry_from-none zero k s none = rw none refl
  retry_from-none (suc left) k s none = rw none refl

  -- an outcome that isn't to be retried
  pub retry_from-stopped : (left k : ℕ) (s : S) (c : CallResult S) → call s ≡ Some c → again settings c.outcome ≡ false
      → retry_from settings call left k s ≡ Some (stopped k c)
  unfolding retry_from
  retry_from-stopped zero k s c called over = rw (called, over) refl
  retry_from-stopped (suc left) k s c called over = rw (called, over) refl

  -- an outcome that is to be retried, with no attempt left
  pub retry_from-exhausted : (k : ℕ) (s : S) (c : CallResult S) → call s ≡ Some c → again settings c.outcome ≡ true
      → retry_from settings call 0 k s ≡ Some (exhausted settings c)
  unfolding retry_from
  retry_from-exhausted k s c called more = rw (called, more) refl

  -- an outcome that is to be retried, with attempts left
  pub retry_from-again : (left k : ℕ) (s : S) (c : CallResult S) → call s ≡ Some c → again settings c.outcome ≡ true
      → retry_from settings call (suc left) k s ≡ option_map (prepend c.calls (c.waits ++ wait_after settings k ∷ [])) (retry_from settings call left (suc k) c.after)
  unfolding retry_from
  retry_from-again left k s c called more = rw (called, more) refl

-- a retry of a script, up to attempt k: what it recorded, and what is left to do
pub record SoFar (settings : RetryConfigView) (start now : List Outcome) (old new : WaitsView) (k : ℕ) : Type 0 where
  pub recorded : List ℕ
  pub items : new.items ≡ old.items ++ recorded
  pub room : new.room + length recorded ≡ old.room
  pub counted : length recorded + 1 ≡ k
  pub within : k ≤ settings.max_attempts
  pub to_do : retry_of settings start
      ≡ option_map (prepend (length recorded) recorded) (retry_from settings scripted (settings.max_attempts - k) k now)

-- what is known of a whole retry of a script
pub record Done (settings : RetryConfigView) (start now : List Outcome) (old new : WaitsView) (result : Outcome × Ending) : Type 0 where
  pub answer : IsSomeAnd (retry_of settings start) (λ r. result ≡ (r.outcome, r.ending))
  pub waits : IsSomeAnd (retry_of settings start) (λ r. new.items ≡ old.items ++ r.waits)
  pub room : IsSomeAnd (retry_of settings start) (λ r. new.room + length r.waits ≡ old.room)
  pub calls : IsSomeAnd (retry_of settings start) (λ r. r.calls ≡ length r.waits + 1)
  pub callee : IsSomeAnd (retry_of settings start) (λ r. now ≡ r.after)

-- one call of a script with a first outcome
abbrev one_call : List Outcome → Outcome → CallResult (List Outcome)
one_call script o = record { outcome = o; calls = 1; waits = []; after = rest script }

called : (script : List Outcome) (o : Outcome) → first script ≡ Some o → scripted script ≡ Some (one_call script o)
called script o h = rw h refl

-- before the first attempt
pub SoFar-start : (settings : RetryConfigView) (start : List Outcome) (waits : WaitsView) → 1 ≤ settings.max_attempts → SoFar settings start start waits waits 1
SoFar-start settings start waits some = record {
  recorded = [];
  items = sym (append-nil waits.items);
  room = omega arith;
  counted = refl;
  within = some;
  to_do = sym (prepend-nothing (retry_from settings scripted (settings.max_attempts - 1) 1 start));
}

module _ (settings : RetryConfigView) (start now : List Outcome) (old new : WaitsView) (k : ℕ) (so_far : SoFar settings start now old new k) (o : Outcome) (given : first now ≡ Some o) where
  -- after the retry ends
  ended : (outcome : Outcome) (ending : Ending)
      → retry_from settings scripted (settings.max_attempts - k) k now ≡ Some (record { outcome = outcome; ending = ending; calls = 1; waits = []; after = rest now })
      → Done settings start (rest now) old new (outcome, ending)
  ended outcome ending last =
      let whole = so_far.to_do ∙ ap (option_map (prepend (length so_far.recorded) so_far.recorded)) last in
      let recorded = append-nil so_far.recorded in
      record {
        answer = rw whole refl;
        waits = rw (whole, recorded) so_far.items;
        room = rw (whole, recorded) so_far.room;
        calls = rw (whole, recorded) refl;
        callee = rw whole refl;
      }

  -- an outcome that isn't to be retried
  pub Done-stopped : again settings o ≡ false → Done settings start (rest now) old new (o, ending_at k o)
  Done-stopped over = ended o (ending_at k o) (retry_from-stopped settings scripted (settings.max_attempts - k) k now (one_call now o) (called now o given) over)

  -- an outcome that is to be retried, at the last attempt
  pub Done-exhausted : again settings o ≡ true → k ≡ settings.max_attempts → Done settings start (rest now) old new (exhausted_outcome settings o, Exhausted)
  Done-exhausted more last =
      let none_left : settings.max_attempts - k ≡ 0 = omega arith in
      ended (exhausted_outcome settings o) Exhausted (rw none_left (retry_from-exhausted settings scripted k now (one_call now o) (called now o given) more))

  -- an outcome that is to be retried, with attempts left
  pub SoFar-again : again settings o ≡ true → k ≢ settings.max_attempts → (newer : WaitsView) → newer.items ≡ new.items ++ wait_after settings k ∷ [] → newer.room + 1 ≡ new.room
      → SoFar settings start (rest now) old newer (k + 1)
  SoFar-again more before_last newer wait room =
      let within : k + 1 ≤ settings.max_attempts = omega (arith, so_far.within) in
      let left : settings.max_attempts - k ≡ suc (settings.max_attempts - (k + 1)) = omega (arith, so_far.within) in
      let longer : length (so_far.recorded ++ wait_after settings k ∷ []) ≡ length so_far.recorded + 1 = length-append so_far.recorded (wait_after settings k ∷ []) in
      let step = retry_from-again settings scripted (settings.max_attempts - (k + 1)) k now (one_call now o) (called now o given) more in
      record {
        recorded = so_far.recorded ++ wait_after settings k ∷ [];
        items = rw (wait, so_far.items) (append_assoc old.items so_far.recorded (wait_after settings k ∷ []));
        room = omega (arith, longer, so_far.room);
        counted = omega (arith, longer, so_far.counted);
        within = within;
        to_do = so_far.to_do ∙ rw (left, step, prepend-prepend, longer, add-one k) refl;
      }
