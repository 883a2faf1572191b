-- What a call through a layer is, by what the call inside it is.
use Rattle.std.proofs.Common.{◌≡◌, ◌≤◌, ◌+◌, ◌*◌, ◌∷◌, [], ◌++◌, ◌∙◌, ℕ, ℤ, suc, List, length, Some, option_map, ◌-◌, true, false, refl, sym, ap, arith, add-one, append_assoc, append-nil, length-append}
use Rattle.std.proofs.lemmas.Bool.Decides.{Decides-eqb}
use Rattle.resil_retry.specs.declared.outcome.Ending.{Ending}
use Rattle.resil_retry.specs.declared.outcome.Ending.TheVariants.{Exhausted}
use Rattle.resil_retry.specs.declared.outcome.Kind.TheVariants.{Full}
use Rattle.resil_retry.specs.declared.outcome.Outcome.{Outcome}
use Rattle.resil_retry.specs.declared.outcome.Outcome.TheVariants.{Error}
use Rattle.resil_retry.specs.Config.{RetryConfigView, again, wait_after}
use Rattle.resil_retry.specs.ErrorTest.{ErrorTestView}
use Rattle.resil_retry.specs.Retry.{CallResult, retry_from, prepend, ending_at, exhausted_outcome}
use Rattle.resil_retry.specs.Script.{first, rest}
use Rattle.resil_retry.proofs.RetryLaws.{prepend-nothing, prepend-prepend, retry_from-stopped, retry_from-exhausted, retry_from-again}
use Rattle.resil_decor.specs.declared.permitter.Asked.{Asked}
use Rattle.resil_decor.specs.declared.layer.Layer.{Layer}
use Rattle.resil_decor.specs.declared.layer.Layer.TheVariants.{Retry, Bulkhead, Fallback}
use Rattle.resil_decor.specs.Chain.{Remaining, through, fallback_outcome}
use Rattle.resil_decor.specs.Permitter.{PermitterAnswers, IsAnswered, AreAnswered, AreAnswered-append}
use Rattle.resil_decor.specs.RunLog.{RunLogView, HasRoom, IsAnswerWritten, IsCallThrough, max_permit_requests}
use Rattle.resil_decor.specs.ChainLimits.{max_calls}
use Rattle.resil_decor.proofs.ChainLimitLaws.{max_calls-none, max_calls-cons, max_permit_requests-none, max_permit_requests-retry, max_permit_requests-bulkhead, max_permit_requests-fallback}

-- the call of the function itself
pub IsCallThrough-innermost : (script left : List Outcome) (answers : PermitterAnswers) (old new : RunLogView) (o : Outcome) → first script ≡ Some o → left ≡ rest script → new ≡ record old { calls = old.calls + 1 }
    → IsCallThrough [] script left answers answers old new o
unfolding through
IsCallThrough-innermost script left answers old new o given dropped written = record {
  calls = 1;
  waits = [];
  asked = [];
  value = λ later. rw (given, dropped) refl;
  answered = refl;
  new_calls = ap (λ w. w.calls) written;
  new_waits = ap (λ w. w.waits) written ∙ sym (append-nil old.waits);
  new_asked = ap (λ w. w.asked) written ∙ sym (append-nil old.asked);
  wait_room = let room = ap (λ w. w.wait_room) written in omega (arith, room);
  asked_room = let room = ap (λ w. w.asked_room) written in omega (arith, room);
  few_calls = rw max_calls-none (omega arith);
  few_waits = rw max_calls-none (omega arith);
  few_asked = rw max_permit_requests-none (omega arith);
}

-- no permit: the call inside isn't made
pub IsCallThrough-refused : (id : ℕ) (inside : List Layer) (script : List Outcome) (before after : PermitterAnswers) (old new : RunLogView)
    → 1 ≤ max_calls inside → IsAnswered before (record { id = id; granted = false }) after → IsAnswerWritten old (record { id = id; granted = false }) new
    → IsCallThrough (Bulkhead id ∷ inside) script script before after old new (Error Full)
unfolding through
IsCallThrough-refused id inside script before after old new some answered written = record {
  calls = 0;
  waits = [];
  asked = record { id = id; granted = false } ∷ [];
  value = λ later. rw ((Decides-eqb id id).1 refl) refl;
  answered = (after, answered, refl);
  new_calls = omega (arith, written.calls);
  new_waits = written.waits.0 ∙ sym (append-nil old.waits);
  new_asked = written.asked;
  wait_room = omega (arith, written.waits.1);
  asked_room = written.room;
  few_calls = omega arith;
  few_waits = rw max_calls-cons (omega (arith, some));
  few_asked = rw max_permit_requests-bulkhead (omega arith);
}

-- a permit: the call inside is made after the answer
pub IsCallThrough-granted : (id : ℕ) (inside : List Layer) (script left : List Outcome) (before between after : PermitterAnswers) (old middle new : RunLogView) (o : Outcome)
    → IsAnswered before (record { id = id; granted = true }) between → IsAnswerWritten old (record { id = id; granted = true }) middle
    → IsCallThrough inside script left between after middle new o → IsCallThrough (Bulkhead id ∷ inside) script left before after old new o
unfolding through
IsCallThrough-granted id inside script left before between after old middle new o answered written ran = record {
  calls = ran.calls;
  waits = ran.waits;
  asked = record { id = id; granted = true } ∷ ran.asked;
  value = λ later. rw ((Decides-eqb id id).1 refl) (ran.value later);
  answered = (between, answered, ran.answered);
  new_calls = ran.new_calls ∙ ap (λ n. n + ran.calls) written.calls;
  new_waits = ran.new_waits ∙ ap (λ waits. waits ++ ran.waits) written.waits.0;
  new_asked = ran.new_asked ∙ ap (λ asked. asked ++ ran.asked) written.asked ∙ append_assoc old.asked (record { id = id; granted = true } ∷ []) ran.asked;
  wait_room = ran.wait_room ∙ written.waits.1;
  asked_room = omega (arith, written.room, ran.asked_room);
  few_calls = rw max_calls-cons (omega (arith, ran.few_calls));
  few_waits = rw max_calls-cons (omega (arith, ran.few_waits));
  few_asked = rw max_permit_requests-bulkhead (omega (arith, ran.few_asked));
}

-- a fallback around a call
pub IsCallThrough-fallback : (catch : ErrorTestView) (value : ℤ) (inside : List Layer) (script left : List Outcome) (before after : PermitterAnswers) (old new : RunLogView) (o : Outcome)
    → IsCallThrough inside script left before after old new o → IsCallThrough (Fallback catch value ∷ inside) script left before after old new (fallback_outcome catch value o)
unfolding through
IsCallThrough-fallback catch value inside script left before after old new o ran = record {
  calls = ran.calls;
  waits = ran.waits;
  asked = ran.asked;
  value = λ later. rw (ran.value later) refl;
  answered = ran.answered;
  new_calls = ran.new_calls;
  new_waits = ran.new_waits;
  new_asked = ran.new_asked;
  wait_room = ran.wait_room;
  asked_room = ran.asked_room;
  few_calls = rw max_calls-cons (omega (arith, ran.few_calls));
  few_waits = rw max_calls-cons (omega (arith, ran.few_waits));
  few_asked = rw max_permit_requests-fallback ran.few_asked;
}

-- a retry as far as it has come, before attempt k
pub record SoFar (settings : RetryConfigView) (inside : List Layer) (start now : List Outcome) (before after : PermitterAnswers) (old new : RunLogView) (k : ℕ) : Type 0 where
  pub tried : ℕ
  pub left : ℕ
  pub calls : ℕ
  pub waits : List ℕ
  pub asked : List Asked
  pub attempt : k ≡ tried + 1
  pub attempts : settings.max_attempts ≡ tried + left + 1
  pub to_do : (later : List Asked) → retry_from settings (through inside) (settings.max_attempts - 1) 1 (record { script = start; asked = asked ++ later })
      ≡ option_map (prepend calls waits) (retry_from settings (through inside) left k (record { script = now; asked = later }))
  pub answered : AreAnswered before asked after
  pub new_calls : new.calls ≡ old.calls + calls
  pub new_waits : new.waits ≡ old.waits ++ waits
  pub new_asked : new.asked ≡ old.asked ++ asked
  pub wait_room : new.wait_room + length waits ≡ old.wait_room
  pub asked_room : new.asked_room + length asked ≡ old.asked_room
  pub few_calls : calls ≤ tried * max_calls inside
  pub few_waits : length waits ≤ tried * max_calls inside
  pub few_asked : length asked ≤ tried * max_permit_requests inside

-- before the first attempt
pub SoFar-start : (settings : RetryConfigView) (inside : List Layer) (start : List Outcome) (answers : PermitterAnswers) (log : RunLogView) → 1 ≤ settings.max_attempts
    → SoFar settings inside start start answers answers log log 1
SoFar-start settings inside start answers log some = record {
  tried = 0;
  left = settings.max_attempts - 1;
  calls = 0;
  waits = [];
  asked = [];
  attempt = refl;
  attempts = omega (arith, some);
  to_do = λ later. sym (prepend-nothing (retry_from settings (through inside) (settings.max_attempts - 1) 1 (record { script = start; asked = later })));
  answered = refl;
  new_calls = omega arith;
  new_waits = sym (append-nil log.waits);
  new_asked = sym (append-nil log.asked);
  wait_room = omega arith;
  asked_room = omega arith;
  few_calls = omega arith;
  few_waits = omega arith;
  few_asked = omega arith;
}

module _ (settings : RetryConfigView) (inside : List Layer) (start now : List Outcome) (before between : PermitterAnswers) (old middle : RunLogView) (k : ℕ)
    (so_far : SoFar settings inside start now before between old middle k) where
  all_calls : settings.max_attempts * max_calls inside ≡ so_far.tried * max_calls inside + so_far.left * max_calls inside + max_calls inside
  all_calls = let split = ap (λ n. n * max_calls inside) so_far.attempts in omega (arith, split)

  all_asked : settings.max_attempts * max_permit_requests inside ≡ so_far.tried * max_permit_requests inside + so_far.left * max_permit_requests inside + max_permit_requests inside
  all_asked = let split = ap (λ n. n * max_permit_requests inside) so_far.attempts in omega (arith, split)

  module _ (left : List Outcome) (after : PermitterAnswers) (new : RunLogView) (o : Outcome) (ran : IsCallThrough inside now left between after middle new o) where
    abbrev called : (later : List Asked) → CallResult Remaining
    called later = record { outcome = o; calls = ran.calls; waits = ran.waits; after = record { script = left; asked = later } }

    -- the retry ends with this attempt
    ended : (given : Outcome) (ending : Ending)
        → ((later : List Asked) → retry_from settings (through inside) so_far.left k (record { script = now; asked = ran.asked ++ later })
        ≡ Some (record { outcome = given; ending = ending; calls = ran.calls; waits = ran.waits; after = record { script = left; asked = later } }))
        → IsCallThrough (Retry settings ∷ inside) start left before after old new given
    unfolding through
    ended given ending last = record {
      calls = so_far.calls + ran.calls;
      waits = so_far.waits ++ ran.waits;
      asked = so_far.asked ++ ran.asked;
      value = λ later. rw (append_assoc so_far.asked ran.asked later, so_far.to_do (ran.asked ++ later), last later) refl;
      answered = AreAnswered-append before between after so_far.asked ran.asked so_far.answered ran.answered;
      new_calls = omega (arith, ran.new_calls, so_far.new_calls);
      new_waits = ran.new_waits ∙ ap (λ waits. waits ++ ran.waits) so_far.new_waits ∙ append_assoc old.waits so_far.waits ran.waits;
      new_asked = ran.new_asked ∙ ap (λ asked. asked ++ ran.asked) so_far.new_asked ∙ append_assoc old.asked so_far.asked ran.asked;
      wait_room = omega (arith, ran.wait_room, so_far.wait_room, length-append so_far.waits ran.waits);
      asked_room = omega (arith, ran.asked_room, so_far.asked_room, length-append so_far.asked ran.asked);
      few_calls = rw max_calls-cons (omega (arith, all_calls, ran.few_calls, so_far.few_calls));
      few_waits = rw max_calls-cons (omega (arith, all_calls, ran.few_waits, so_far.few_waits, length-append so_far.waits ran.waits));
      few_asked = rw max_permit_requests-retry (omega (arith, all_asked, ran.few_asked, so_far.few_asked, length-append so_far.asked ran.asked));
    }

    -- an outcome that isn't to be retried
    pub IsCallThrough-stopped : again settings o ≡ false → IsCallThrough (Retry settings ∷ inside) start left before after old new o
    IsCallThrough-stopped over = ended o (ending_at k o)
        (λ later. retry_from-stopped settings (through inside) so_far.left k (record { script = now; asked = ran.asked ++ later }) (called later) (ran.value later) over)

    -- an outcome that is to be retried, at the last attempt
    pub IsCallThrough-exhausted : again settings o ≡ true → k ≡ settings.max_attempts → IsCallThrough (Retry settings ∷ inside) start left before after old new (exhausted_outcome settings o)
    IsCallThrough-exhausted more last =
        let none_left : so_far.left ≡ 0 = omega (arith, so_far.attempt, so_far.attempts, last) in
        ended (exhausted_outcome settings o) Exhausted
        (λ later. rw none_left (retry_from-exhausted settings (through inside) k (record { script = now; asked = ran.asked ++ later }) (called later) (ran.value later) more))

    -- an outcome that is to be retried, with attempts left
    pub SoFar-again : again settings o ≡ true → (later : ℕ) → so_far.left ≡ suc later → (newer : RunLogView)
        → newer.waits ≡ new.waits ++ wait_after settings k ∷ [] → newer.wait_room + 1 ≡ new.wait_room → newer.calls ≡ new.calls
        → (newer.asked ≡ new.asked) × (newer.asked_room ≡ new.asked_room)
        → SoFar settings inside start left before after old newer (k + 1)
    SoFar-again more later one_more newer waits room calls asked =
        let step = λ (answers : List Asked). retry_from-again settings (through inside) later k (record { script = now; asked = ran.asked ++ answers })
        (called answers) (ran.value answers) more in
        let sum_waits = length-append so_far.waits (ran.waits ++ wait_after settings k ∷ []) in
        let one_wait = length-append ran.waits (wait_after settings k ∷ []) in
        let sum_asked = length-append so_far.asked ran.asked in
        record {
          tried = so_far.tried + 1;
          left = later;
          calls = so_far.calls + ran.calls;
          waits = so_far.waits ++ (ran.waits ++ wait_after settings k ∷ []);
          asked = so_far.asked ++ ran.asked;
          attempt = omega (arith, so_far.attempt);
          attempts = omega (arith, so_far.attempts, one_more);
          to_do = λ answers. rw (append_assoc so_far.asked ran.asked answers, so_far.to_do (ran.asked ++ answers), one_more, step answers, add-one k)
              (prepend-prepend so_far.calls ran.calls so_far.waits (ran.waits ++ wait_after settings k ∷ [])
              (retry_from settings (through inside) later (suc k) (record { script = left; asked = answers })));
          answered = AreAnswered-append before between after so_far.asked ran.asked so_far.answered ran.answered;
          new_calls = omega (arith, calls, ran.new_calls, so_far.new_calls);
          new_waits = rw (waits, ran.new_waits, so_far.new_waits, append_assoc (old.waits ++ so_far.waits) ran.waits (wait_after settings k ∷ []))
              (append_assoc old.waits so_far.waits (ran.waits ++ wait_after settings k ∷ []));
          new_asked = rw (asked.0, ran.new_asked, so_far.new_asked, append_assoc) refl;
          wait_room = omega (arith, room, ran.wait_room, so_far.wait_room, sum_waits, one_wait);
          asked_room = omega (arith, asked.1, ran.asked_room, so_far.asked_room, sum_asked);
          few_calls = omega (arith, so_far.few_calls, ran.few_calls);
          few_waits = omega (arith, so_far.few_waits, ran.few_waits, sum_waits, one_wait);
          few_asked = omega (arith, so_far.few_asked, ran.few_asked, sum_asked);
        }

-- there is room for the call inside, after one more answer
pub room_permitted : (id : ℕ) (inside : List Layer) (old middle : RunLogView) (asked : Asked) → HasRoom (Bulkhead id ∷ inside) old → IsAnswerWritten old asked middle → HasRoom inside middle
unfolding max_calls max_permit_requests
room_permitted id inside old middle asked room written = record {
  some_call = omega (arith, room.some_call);
  calls = omega (arith, room.calls, written.calls);
  waits = omega (arith, room.waits, written.waits.1);
  asked = omega (arith, room.asked, written.room);
}

pub room_in_fallback : (catch : ErrorTestView) (value : ℤ) (inside : List Layer) (old : RunLogView) → HasRoom (Fallback catch value ∷ inside) old → HasRoom inside old
unfolding max_calls max_permit_requests
room_in_fallback catch value inside old room = record {
  some_call = omega (arith, room.some_call);
  calls = omega (arith, room.calls);
  waits = omega (arith, room.waits);
  asked = room.asked;
}
