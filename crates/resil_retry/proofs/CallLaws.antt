-- The retry of a callee, from the retry of any call.
use Rattle.std.proofs.Common.{◌≡◌, ◌≢◌, ◌≤◌, ◌+◌, ◌∙◌, ◌++◌, ◌∷◌, [], ℕ, List, Bool, Some, sym, arith, subst}
use Rattle.std.specs.List.{FoldsTo}
use Rattle.resil_call.specs.declared.tried.Tried.{Tried}
use Rattle.resil_call.specs.declared.tried.End.TheVariants.{Accepted, Exhausted}
use Rattle.resil_call.specs.Retry.{Round, HasEnded, IsTriedAgain, IsRetried}
use Rattle.resil_retry.specs.declared.outcome.Ending.TheVariants as ending
use Rattle.resil_retry.specs.declared.outcome.Outcome.{Outcome}
use Rattle.resil_retry.specs.Config.{RetryConfigView, again, wait_after}
use Rattle.resil_retry.specs.Retry.{ending_at, exhausted_outcome}
use Rattle.resil_retry.specs.Script.{first, rest}
use Rattle.resil_retry.specs.Waits.{WaitsView}
use Rattle.resil_retry.proofs.RetryLaws.{SoFar, SoFar-start, SoFar-again, Done, Done-stopped, Done-exhausted}

module _ {C : Type 0} (script : C → List Outcome) (IsAnswer : C → Outcome → C → Type 0)
    (answers : (x y : C) (outcome : Outcome) → IsAnswer x outcome y → (first (script x) ≡ Some outcome) × (script y ≡ rest (script x))) (settings : RetryConfigView) where
  abbrev Verdict : Outcome → Bool → Type 0
  Verdict = λ outcome verdict. verdict ≡ again settings outcome

  abbrev Waiting : ℕ → ℕ → Type 0
  Waiting = λ attempt wait. wait ≡ wait_after settings attempt

  abbrev Recorded : WaitsView → ℕ → WaitsView → Type 0
  Recorded = λ old wait new. (new.items ≡ old.items ++ wait ∷ []) × (new.room + 1 ≡ old.room)

  attempts_rise : (before : List Outcome) (x last : Round C WaitsView) → FoldsTo (IsTriedAgain IsAnswer Verdict Waiting Recorded) x before last → x.attempt ≤ last.attempt
  attempts_rise [] x last p = let same : x.attempt ≡ last.attempt = cc in omega (arith, same)
  attempts_rise (o ∷ before) x last p =
      let later = attempts_rise before p.0 last p.2 in
      omega (arith, later, p.1.next)

  SoFar-folds : (start : List Outcome) (old : WaitsView) (before : List Outcome) (x last : Round C WaitsView) → SoFar settings start (script x.call) old x.pause x.attempt
      → FoldsTo (IsTriedAgain IsAnswer Verdict Waiting Recorded) x before last → last.attempt ≤ settings.max_attempts
      → SoFar settings start (script last.call) old last.pause last.attempt
  SoFar-folds start old [] x last so_far p few = subst (λ (t : Round C WaitsView). SoFar settings start (script t.call) old t.pause t.attempt) p so_far
  SoFar-folds start old (o ∷ before) x last so_far p few =
      let later = attempts_rise before p.0 last p.2 in
      let next = p.1.next in
      let before_last : x.attempt ≢ settings.max_attempts = omega (arith, later, next, few) in
      let items = rw p.1.is_wait at p.1.paused.0 in
      let called = answers x.call p.0.call o p.1.called in
      let more = SoFar-again settings start (script x.call) old x.pause x.attempt so_far o called.0 (sym p.1.again) before_last p.0.pause items p.1.paused.1 in
      SoFar-folds start old before p.0 last (rw (called.1, next) more) p.2 few

  module _ (call after : C) (old later : WaitsView) (tried : Tried Outcome) (least : 1 ≤ settings.max_attempts)
      (retried : IsRetried IsAnswer Verdict Waiting Recorded settings.max_attempts call after old later tried) where
    last_round : SoFar settings (script call) (script retried.last.call) old retried.last.pause retried.last.attempt
    last_round =
        let few : retried.last.attempt ≤ settings.max_attempts = subst (λ n. n ≤ settings.max_attempts) retried.counted retried.few in
        SoFar-folds (script call) old retried.before (record { attempt = 1; call = call; pause = old; limit = record {} }) retried.last (SoFar-start settings (script call) old least) retried.tried_again few

    last_call : (first (script retried.last.call) ≡ Some tried.answer) × (script after ≡ rest (script retried.last.call))
    last_call = answers retried.last.call after tried.answer retried.called

    pub Done-accepted : tried.end ≡ Accepted → Done settings (script call) (script after) old later (tried.answer, ending_at tried.attempts tried.answer)
    Done-accepted is =
        let over : HasEnded Verdict settings.max_attempts tried Accepted = subst (λ e. HasEnded Verdict settings.max_attempts tried e) is retried.ended in
        let done = Done-stopped settings (script call) (script retried.last.call) old retried.last.pause retried.last.attempt last_round tried.answer last_call.0 (sym over) in
        rw (last_call.1, retried.no_wait, retried.counted) done

    pub Done-gave_up : tried.end ≡ Exhausted → Done settings (script call) (script after) old later (exhausted_outcome settings tried.answer, ending.Exhausted)
    Done-gave_up is =
        let over : HasEnded Verdict settings.max_attempts tried Exhausted = subst (λ e. HasEnded Verdict settings.max_attempts tried e) is retried.ended in
        let last : retried.last.attempt ≡ settings.max_attempts = sym retried.counted ∙ over.1 in
        let done = Done-exhausted settings (script call) (script retried.last.call) old retried.last.pause retried.last.attempt last_round tried.answer last_call.0 (sym over.0) last in
        rw (last_call.1, retried.no_wait) done
