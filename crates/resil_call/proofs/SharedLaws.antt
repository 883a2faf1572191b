-- The retry of a call and what pauses, from the retry of the value that has both.
use Rattle.std.proofs.Common.{◌≡◌, ◌+◌, ◌-◌, ◌∙◌, ◌∷◌, [], ℕ, suc, Bool, List, refl, sym, ap, arith, subst}
use Rattle.std.specs.Borrow.{MutBor}
use Rattle.std.specs.List.{FoldsTo}
use Rattle.resil_call.specs.declared.tried.Tried.{Tried}
use Rattle.resil_call.specs.Retry.{RoundWithin, IsTriedAgainWithin, IsRetriedWithin}
use Rattle.resil_call.specs.Sharing.{RoundSharing, CanCallAt, CanTry, IsAnswerAt, IsTriedAgainSharing, IsRetriedSharingWithin}
use Rattle.resil_call.specs.declared.shared.CallAndPause.{CallAndPause}
use Rattle.resil_call.proofs.RetryLaws.{IsAnswerAt-by, CanTry-by, IsRetriedSharingWithin-keeps}

module _ {T C P : Type 0} (CanCall : C → Type 0) (IsAnswer : C → T → C → Type 0) (HasRoom : P → ℕ → Type 0) (IsPaused : P → ℕ → P → Type 0) where
  -- what is known of a call at a `&mut` to both
  abbrev pub AnswersBoth : MutBor (CallAndPause C P) → T → MutBor (CallAndPause C P) → Type 0
  AnswersBoth = λ lent answer left.
      IsAnswer lent.now.call.now answer left.now.call.now
      × (CanCall left.now.call.now
      × ((left.now.pause.now ≡ lent.now.pause.now)
      × ((left.now.call.ghost_name ≡ lent.now.call.ghost_name) × (left.now.pause.ghost_name ≡ lent.now.pause.ghost_name))))

  -- and of a pause of both
  abbrev pub PausesBoth : CallAndPause C P → ℕ → CallAndPause C P → Type 0
  PausesBoth = λ x wait y.
      IsPaused x.pause.now wait y.pause.now × ((more : ℕ) → HasRoom x.pause.now (1 + more) → HasRoom y.pause.now more) × (y.call ≡ x.call) × (y.pause.ghost_name ≡ x.pause.ghost_name)

  -- a call changes the one part
  abbrev IsCalled : CallAndPause C P → T → CallAndPause C P → Type 0
  IsCalled = λ x answer y.
      IsAnswer x.call.now answer y.call.now × CanCall y.call.now × (y.pause.now ≡ x.pause.now) × (y.call.ghost_name ≡ x.call.ghost_name) × (y.pause.ghost_name ≡ x.pause.ghost_name)

  called : (x : CallAndPause C P) (answer : T) (y : CallAndPause C P) → IsAnswerAt AnswersBoth x answer y → IsCalled x answer y
  called = IsAnswerAt-by AnswersBoth IsCalled (λ lent left answer met. (met.0, met.1.0, met.1.1.0, met.1.1.1.0, met.1.1.1.1))

  abbrev Ready : ℕ → CallAndPause C P → Type 0
  Ready = λ left x. CanCall x.call.now × ((more : ℕ) × HasRoom x.pause.now (left - 1 + more))

  -- room for the pauses to come stays through a call
  room : (n : ℕ) (x : CallAndPause C P) (answer : T) (y : CallAndPause C P) (j : Ready (suc (suc n)) x) → IsAnswerAt AnswersBoth x answer y → HasRoom y.pause.now (1 + (n + j.1.0))
  room n x answer y j answered =
      let left_over : suc (suc n) - 1 + j.1.0 ≡ 1 + (n + j.1.0) = omega arith in
      subst (λ p. HasRoom p (1 + (n + j.1.0))) (sym (called x answer y answered).2) (subst (HasRoom x.pause.now) left_over j.1.1)

  -- this many tries are possible if the call can be made and there is room for the pauses
  pub CanTry-of_both : (left : ℕ) (x : CallAndPause C P) → CanCall x.call.now → (more : ℕ) × HasRoom x.pause.now (left - 1 + more)
      → CanTry (CanCallAt (λ (lent : MutBor (CallAndPause C P)). CanCall lent.now.call.now)) (IsAnswerAt AnswersBoth) (λ x more. HasRoom x.pause.now more) PausesBoth left x
  CanTry-of_both left x can some =
      CanTry-by _ _ _ _ Ready
      (λ n x j lent shows. subst (λ x. CanCall x.call.now) (sym shows) j.0)
      (λ n x answer next j answered. (n + j.1.0, room n x answer next j answered))
      (λ n x answer next wait later j answered waited.
      let fewer : n + j.1.0 ≡ suc n - 1 + j.1.0 = omega arith in (
        subst (λ c. CanCall c.now) (sym waited.2) (called x answer next answered).1,
        (j.1.0, subst (HasRoom later.pause.now) fewer (waited.1 (n + j.1.0) (room n x answer next j answered))),
      ))
      left x (can, some)

  module _ {L : Type 0} (IsVerdict : T → Bool → Type 0) (IsWait : ℕ → T → ℕ → Type 0) (IsAllowed : L → ℕ → Bool → L → Type 0) (max : ℕ) where
    abbrev round : RoundSharing (CallAndPause C P) L → RoundWithin C P L
    round = λ x. record { attempt = x.attempt; call = x.shared.call.now; pause = x.shared.pause.now; limit = x.limit }

    tried_apart : (before : List T) (x last : RoundSharing (CallAndPause C P) L) → FoldsTo (IsTriedAgainSharing (IsAnswerAt AnswersBoth) IsVerdict IsWait PausesBoth IsAllowed) x before last
        → FoldsTo (IsTriedAgainWithin IsAnswer IsVerdict IsWait IsPaused IsAllowed) (round x) before (round last)
    tried_apart [] x last p = ap round p
    tried_apart (o ∷ before) x last p =
        let one = p.1 in
        let answered = called x.shared o one.between one.called in (
          round p.0,
          record {
            called = subst (λ c. IsAnswer x.shared.call.now o c.now) (sym one.paused.2) answered.0;
            again = one.again;
            wait = one.wait;
            is_wait = one.is_wait;
            allowed = one.allowed;
            paused = subst (λ v. IsPaused v one.wait p.0.shared.pause.now) answered.2 one.paused.0;
            next = one.next;
          },
          tried_apart before p.0 last p.2,
        )

    module _ (old new : CallAndPause C P) (limit rest : L) (tried : Tried T)
        (retried : IsRetriedSharingWithin (IsAnswerAt AnswersBoth) IsVerdict IsWait PausesBoth IsAllowed max old new limit rest tried) where
      pub IsRetried-of_both : IsRetriedWithin IsAnswer IsVerdict IsWait IsPaused IsAllowed max old.call.now new.call.now old.pause.now new.pause.now limit rest tried
      IsRetried-of_both =
          let answered = called retried.last.shared tried.answer new retried.called in
          record {
            before = retried.before;
            last = round retried.last;
            tried_again = tried_apart retried.before _ retried.last retried.tried_again;
            called = answered.0;
            no_wait = answered.2;
            counted = retried.counted;
            few = retried.few;
            ended = retried.ended;
            left = retried.left;
          }

      -- the two references stay the same, and if there is always room there is after
      abbrev Keeps : CallAndPause C P → Type 0
      Keeps = λ x. (old.call.ghost_name ≡ x.call.ghost_name) × (old.pause.ghost_name ≡ x.pause.ghost_name) × (((n : ℕ) → HasRoom old.pause.now n) → (n : ℕ) → HasRoom x.pause.now n)

      kept_by_call : (x : CallAndPause C P) (answer : T) (y : CallAndPause C P) → IsAnswerAt AnswersBoth x answer y → Keeps x → Keeps y
      kept_by_call x answer y answered j =
          let is = called x answer y answered in (j.0 ∙ sym is.3, j.1 ∙ sym is.4, λ all n. subst (λ p. HasRoom p n) (sym is.2) (j.2 all n))

      pub after : CanCall new.call.now × Keeps new
      after = (
        (called retried.last.shared tried.answer new retried.called).1,
        kept_by_call retried.last.shared tried.answer new retried.called (IsRetriedSharingWithin-keeps _ _ _ _ _ max (λ k x. Keeps x)
            (λ k x answer between wait y j before_last answered again is_wait waited.
            let now = kept_by_call x answer between answered j in (now.0 ∙ sym (ap (λ r. r.ghost_name) waited.2), now.1 ∙ sym waited.3, λ all n. waited.1 n (now.2 all (1 + n))))
            old new limit rest tried retried (refl, refl, λ all. all)),
      )
