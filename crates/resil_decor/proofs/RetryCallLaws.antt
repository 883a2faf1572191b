-- What a retry around a call through layers is, from the retry of any call.
use Rattle.std.proofs.Common.{◌≡◌, ◌≤◌, ◌<◌, ◌+◌, ◌-◌, ◌*◌, ◌∷◌, [], ◌++◌, ◌∙◌, ℕ, suc, Bool, true, List, refl, sym, ap, arith, subst}
use Rattle.std.specs.Borrow.{MutBor}
use Rattle.resil_call.specs.declared.tried.Tried.{Tried}
use Rattle.resil_call.specs.declared.tried.End.TheVariants as ended
use Rattle.resil_call.specs.Retry.{HasEnded}
use Rattle.resil_call.specs.Sharing.{CanTry, IsAnswerAt, IsRetriedSharing}
use Rattle.resil_call.proofs.RetryLaws.{IsAnswerAt-by, CanTry-by, IsRetriedSharing-keeps}
use Rattle.resil_retry.specs.declared.outcome.Outcome.{Outcome}
use Rattle.resil_retry.specs.Config.{RetryConfigView, again, wait_after}
use Rattle.resil_retry.specs.Retry.{exhausted_outcome}
use Rattle.resil_decor.specs.declared.course.Course.{Course}
use Rattle.resil_decor.specs.declared.layer.Layer.{Layer}
use Rattle.resil_decor.specs.declared.layer.Layer.TheVariants.{Retry}
use Rattle.resil_decor.specs.declared.permitter.Asked.{Asked}
use Rattle.resil_decor.specs.ChainLimits.{call_limit, max_calls}
use Rattle.resil_decor.specs.Permitter.{PermitterAnswers}
use Rattle.resil_decor.specs.RunLog.{RunLogView, HasRoom, HasWritten, IsCallThrough, IsWaitWritten, max_permit_requests}
use Rattle.resil_decor.proofs.ChainLimitLaws.{max_calls-cons, max_permit_requests-retry, right_factor}
use Rattle.resil_decor.proofs.LayerCallLaws.{SoFar, SoFar-start, SoFar-again, IsCallThrough-stopped, IsCallThrough-exhausted}
use Rattle.resil_decor.proofs.RunLogLaws.{HasWritten-none, HasWritten-both}

-- there is room for this many attempts around a call through layers
pub record RoomFor (inside : List Layer) (left : ℕ) (w : RunLogView) : Type 0 where
  pub some_call : 1 ≤ max_calls inside
  pub calls : w.calls + left * max_calls inside ≤ call_limit
  pub waits : left * max_calls inside ≤ w.wait_room + 1
  pub asked : left * max_permit_requests inside ≤ w.asked_room

pub RoomFor-all : (settings : RetryConfigView) (inside : List Layer) (w : RunLogView) → HasRoom (Retry settings ∷ inside) w → RoomFor inside settings.max_attempts w
RoomFor-all settings inside w room = record {
  some_call = right_factor settings.max_attempts (max_calls inside) (rw max_calls-cons at room.some_call);
  calls = rw max_calls-cons at room.calls;
  waits = rw max_calls-cons at room.waits;
  asked = rw max_permit_requests-retry at room.asked;
}

module _ {P : Type 0} (answers : P → PermitterAnswers) (held : P → ℕ → ℕ) (Between : P → List Asked → P → Type 0) (settings : RetryConfigView) (inside : List Layer) where
  -- what is known of one attempt
  abbrev pub Attempts : MutBor (Course P) → Outcome → MutBor (Course P) → Type 0
  Attempts = λ lent outcome left.
      IsCallThrough inside lent.now.player.now left.now.player.now (answers lent.now.permitter.now) (answers left.now.permitter.now) lent.now.log.now left.now.log.now outcome
      × (((id : ℕ) → held left.now.permitter.now id ≡ held lent.now.permitter.now id)
      × (HasWritten (λ asked. Between lent.now.permitter.now asked left.now.permitter.now) lent.now.log.now left.now.log.now
      × ((left.now.player.ghost_name ≡ lent.now.player.ghost_name) × (left.now.permitter.ghost_name ≡ lent.now.permitter.ghost_name) × (left.now.log.ghost_name ≡ lent.now.log.ghost_name))))

  -- the same of a call through any layers, by the values
  pub record Attempted (layers : List Layer) (x : Course P) (outcome : Outcome) (y : Course P) : Type 0 where
    pub ran : IsCallThrough layers x.player.now y.player.now (answers x.permitter.now) (answers y.permitter.now) x.log.now y.log.now outcome
    pub held_after : (id : ℕ) → held y.permitter.now id ≡ held x.permitter.now id
    pub given : HasWritten (λ asked. Between x.permitter.now asked y.permitter.now) x.log.now y.log.now
    pub player : y.player.ghost_name ≡ x.player.ghost_name
    pub permitter : y.permitter.ghost_name ≡ x.permitter.ghost_name
    pub log : y.log.ghost_name ≡ x.log.ghost_name

  pub attempted : (x : Course P) (outcome : Outcome) (y : Course P) → IsAnswerAt Attempts x outcome y → Attempted inside x outcome y
  attempted = IsAnswerAt-by Attempts (Attempted inside) (λ lent left outcome met. record {
    ran = met.0;
    held_after = met.1.0;
    given = met.1.1.0;
    player = met.1.1.1.0;
    permitter = met.1.1.1.1;
    log = met.1.1.1.2;
  })

  -- and of one wait
  abbrev pub Waits : Course P → ℕ → Course P → Type 0
  Waits = λ x wait y. (y.player ≡ x.player) × (y.permitter ≡ x.permitter) × (y.log.ghost_name ≡ x.log.ghost_name) × IsWaitWritten x.log.now wait y.log.now

  abbrev pub Verdict : Outcome → Bool → Type 0
  Verdict = λ outcome verdict. verdict ≡ again settings outcome

  abbrev pub Waiting : ℕ → ℕ → Type 0
  Waiting = λ attempt wait. wait ≡ wait_after settings attempt

  -- there is room for all attempts
  pub CanTry-through : (Can : Course P → Type 0) → ((y : Course P) → HasRoom inside y.log.now → Can y) → (x : Course P) → HasRoom (Retry settings ∷ inside) x.log.now
      → CanTry Can (IsAnswerAt Attempts) (λ (y : Course P) more. more ≤ y.log.now.wait_room) Waits settings.max_attempts x
  CanTry-through Can can x room =
      CanTry-by Can (IsAnswerAt Attempts) (λ (y : Course P) more. more ≤ y.log.now.wait_room) Waits (λ left y. RoomFor inside left y.log.now)
      (λ left y j. can y (record {
        some_call = j.some_call;
        calls = omega (arith, j.calls);
        waits = omega (arith, j.waits);
        asked = omega (arith, j.asked);
      }))
      (λ left y outcome next j made.
      let ran = (attempted y outcome next made).ran in
      (0, omega (arith, j.waits, ran.few_waits, ran.wait_room, j.some_call)))
      (λ left y outcome next wait later j made waited.
      let ran = (attempted y outcome next made).ran in
      record {
        some_call = j.some_call;
        calls = omega (arith, j.calls, ran.new_calls, ran.few_calls, waited.3.calls);
        waits = omega (arith, j.waits, ran.few_waits, ran.wait_room, waited.3.room);
        asked = omega (arith, j.asked, ran.few_asked, ran.asked_room, waited.3.asked.1);
      })
      settings.max_attempts x (RoomFor-all settings inside x.log.now room)

  -- before attempt k
  record Kept (old : Course P) (k : ℕ) (now : Course P) : Type 0 where
    pub so_far : SoFar settings inside old.player.now now.player.now (answers old.permitter.now) (answers now.permitter.now) old.log.now now.log.now k
    pub held_after : (id : ℕ) → held now.permitter.now id ≡ held old.permitter.now id
    pub given : HasWritten (λ asked. Between old.permitter.now asked now.permitter.now) old.log.now now.log.now
    pub player : now.player.ghost_name ≡ old.player.ghost_name
    pub permitter : now.permitter.ghost_name ≡ old.permitter.ghost_name
    pub log : now.log.ghost_name ≡ old.log.ghost_name

  module _ (none : (x : P) → Between x [] x) (append : (x y z : P) (front back : List Asked) → Between x front y → Between y back z → Between x (front ++ back) z)
      (old new : Course P) (tried : Tried Outcome) (least : 1 ≤ settings.max_attempts)
      (retried : IsRetriedSharing (IsAnswerAt Attempts) Verdict Waiting Waits settings.max_attempts old new tried) where
    Kept-start : Kept old 1 old
    Kept-start = record {
      so_far = SoFar-start settings inside old.player.now (answers old.permitter.now) old.log.now least;
      held_after = λ id. refl;
      given = HasWritten-none _ old.log.now old.log.now (none old.permitter.now) refl;
      player = refl;
      permitter = refl;
      log = refl;
    }

    Kept-again : (k : ℕ) (now : Course P) (outcome : Outcome) (between : Course P) (wait : ℕ) (later : Course P) → Kept old k now → k < settings.max_attempts → IsAnswerAt Attempts now outcome between
        → Verdict outcome true → Waiting k wait → Waits between wait later → Kept old (k + 1) later
    Kept-again k now outcome between wait later kept before_last made verdict is_wait waited =
        let one = attempted now outcome between made in
        let more_left : kept.so_far.left ≡ suc (kept.so_far.left - 1) = omega (arith, kept.so_far.attempt, kept.so_far.attempts, before_last) in
        let items = rw is_wait at waited.3.waits in
        let more = SoFar-again settings inside old.player.now now.player.now (answers old.permitter.now) (answers now.permitter.now) old.log.now now.log.now k kept.so_far
        between.player.now (answers between.permitter.now) between.log.now outcome one.ran (sym verdict)
        (kept.so_far.left - 1) more_left later.log.now items waited.3.room waited.3.calls waited.3.asked in
        let given = HasWritten-both _ _ (λ asked. Between old.permitter.now asked between.permitter.now) old.log.now now.log.now between.log.now
        (append old.permitter.now now.permitter.now between.permitter.now) kept.given one.given in
        record {
          so_far = rw (waited.0, waited.1) more;
          held_after = λ id. ap (λ (p : MutBor P). held p.now id) waited.1 ∙ one.held_after id ∙ kept.held_after id;
          given = rw waited.1 (record { more = given.more; written = waited.3.asked.0 ∙ given.written; holds = given.holds });
          player = ap (λ (p : MutBor (List Outcome)). p.ghost_name) waited.0 ∙ one.player ∙ kept.player;
          permitter = ap (λ (p : MutBor P). p.ghost_name) waited.1 ∙ one.permitter ∙ kept.permitter;
          log = waited.2 ∙ one.log ∙ kept.log;
        }

    kept_at_last : Kept old retried.last.attempt retried.last.shared
    kept_at_last = IsRetriedSharing-keeps (IsAnswerAt Attempts) Verdict Waiting Waits settings.max_attempts (Kept old) Kept-again old new tried retried Kept-start

    last_one : Attempted inside retried.last.shared tried.answer new
    last_one = attempted retried.last.shared tried.answer new retried.called

    -- all that is known of the retry, by what its outcome is
    by_outcome : (outcome : Outcome) → IsCallThrough (Retry settings ∷ inside) old.player.now new.player.now (answers old.permitter.now) (answers new.permitter.now) old.log.now new.log.now outcome
        → Attempted (Retry settings ∷ inside) old outcome new
    by_outcome outcome ran = record {
      ran = ran;
      held_after = λ id. last_one.held_after id ∙ kept_at_last.held_after id;
      given = HasWritten-both _ _ (λ asked. Between old.permitter.now asked new.permitter.now) old.log.now retried.last.shared.log.now new.log.now
          (append old.permitter.now retried.last.shared.permitter.now new.permitter.now) kept_at_last.given last_one.given;
      player = last_one.player ∙ kept_at_last.player;
      permitter = last_one.permitter ∙ kept_at_last.permitter;
      log = last_one.log ∙ kept_at_last.log;
    }

    pub accepted : tried.end ≡ ended.Accepted → Attempted (Retry settings ∷ inside) old tried.answer new
    accepted is =
        let over : HasEnded Verdict settings.max_attempts tried ended.Accepted = subst (λ e. HasEnded Verdict settings.max_attempts tried e) is retried.ended in
        by_outcome tried.answer
        (IsCallThrough-stopped settings inside old.player.now retried.last.shared.player.now _ _ old.log.now retried.last.shared.log.now retried.last.attempt kept_at_last.so_far
        new.player.now _ new.log.now tried.answer last_one.ran (sym over))

    pub gave_up : tried.end ≡ ended.Exhausted → Attempted (Retry settings ∷ inside) old (exhausted_outcome settings tried.answer) new
    gave_up is =
        let over : HasEnded Verdict settings.max_attempts tried ended.Exhausted = subst (λ e. HasEnded Verdict settings.max_attempts tried e) is retried.ended in
        let last : retried.last.attempt ≡ settings.max_attempts = sym retried.counted ∙ over.1 in
        by_outcome (exhausted_outcome settings tried.answer)
        (IsCallThrough-exhausted settings inside old.player.now retried.last.shared.player.now _ _ old.log.now retried.last.shared.log.now retried.last.attempt kept_at_last.so_far
        new.player.now _ new.log.now tried.answer last_one.ran (sym over.0) last)
