-- A retry, attempt by attempt.
use Rattle.std.proofs.Common.{◌≡◌, ◌<◌, ◌≤◌, ◌+◌, ◌++◌, ◌∷◌, [], ℕ, zero, suc, Bool, true, List, refl, sym, arith, subst}
use Rattle.std.specs.Borrow.{MutBor}
use Rattle.std.specs.List.{FoldsTo}
use Rattle.std.proofs.lemmas.Fn.{FoldsTo-push}
use Rattle.resil_call.specs.declared.tried.Tried.{Tried}
use Rattle.resil_call.specs.Limit.{Unlimited}
use Rattle.resil_call.specs.Retry.{HasEnded, LeavesLimit}
use Rattle.resil_call.specs.Sharing.{RoundSharing, CanTry, IsAnswerAt, IsTriedAgainSharing, IsRetriedSharing, IsRetriedSharingWithin}

-- what a call at a `&mut` does, at the value
pub IsAnswerAt-by : {T S : Type 0} (Post : MutBor S → T → MutBor S → Type 0) (R : S → T → S → Type 0) → ((lent left : MutBor S) (answer : T) → Post lent answer left → R lent.now answer left.now)
    → (s : S) (answer : T) (next : S) → IsAnswerAt Post s answer next → R s answer next
IsAnswerAt-by Post R by s answer next given =
    subst (λ x. R x answer next) given.shows (subst (R given.lent.now answer) given.leaves (by given.lent given.left answer given.met))

module _ {T S : Type 0} (CanCall : S → Type 0) (IsAnswer : S → T → S → Type 0) (HasRoom : S → ℕ → Type 0) (IsPaused : S → ℕ → S → Type 0) where
  -- what the tries to come ask of a value, and of what a call and a pause leave
  pub CanTry-more : (left : ℕ) (s : S) → CanTry CanCall IsAnswer HasRoom IsPaused (suc left) s → CanCall s
      × ((answer : T) (next : S) → IsAnswer s answer next → 1 ≤ left
      → ((more : ℕ) × HasRoom next (1 + more)) × ((wait : ℕ) (later : S) → IsPaused next wait later → CanTry CanCall IsAnswer HasRoom IsPaused left later))
  unfolding CanTry
  CanTry-more left s can = can

  -- the tries to come, by what holds at each of them
  pub CanTry-by : (J : ℕ → S → Type 0) → ((left : ℕ) (s : S) → J (suc left) s → CanCall s)
      → ((left : ℕ) (s : S) (answer : T) (next : S) → J (suc (suc left)) s → IsAnswer s answer next → (more : ℕ) × HasRoom next (1 + more))
      → ((left : ℕ) (s : S) (answer : T) (next : S) (wait : ℕ) (later : S) → J (suc (suc left)) s → IsAnswer s answer next → IsPaused next wait later → J (suc left) later)
      → (left : ℕ) (s : S) → J left s → CanTry CanCall IsAnswer HasRoom IsPaused left s
  unfolding CanTry
  CanTry-by J can room step zero s j = tt
  CanTry-by J can room step (suc zero) s j = (can zero s j, λ answer next called some. absurd (omega (arith, some)))
  CanTry-by J can room step (suc (suc left)) s j = (
    can (suc left) s j,
    λ answer next called some. (room left s answer next j called, λ wait later paused. CanTry-by J can room step (suc left) later (step left s answer next wait later j called paused)),
  )

module _ {T S L : Type 0} (IsAnswer : S → T → S → Type 0) (IsVerdict : T → Bool → Type 0) (IsWait : ℕ → T → ℕ → Type 0) (IsPaused : S → ℕ → S → Type 0) (IsAllowed : L → ℕ → Bool → L → Type 0) (max : ℕ) where
  -- before attempt k: every answer so far was to be tried again
  pub record SoFar (old now : S) (limit rest : L) (k : ℕ) : Type 0 where
    pub before : List T
    pub tried_again : FoldsTo (IsTriedAgainSharing IsAnswer IsVerdict IsWait IsPaused IsAllowed) (record { attempt = 1; shared = old; limit = limit }) before (record { attempt = k; shared = now; limit = rest })
    pub some : 1 ≤ k
    pub few : k ≤ max

  pub SoFar-start : (old : S) (limit : L) → 1 ≤ max → SoFar old old limit limit 1
  SoFar-start old limit least = record { before = []; tried_again = refl; some = omega arith; few = least }

  module _ (old now between : S) (limit rest : L) (k : ℕ) (so_far : SoFar old now limit rest k) where
    pub SoFar-again : (answer : T) (wait : ℕ) (latest : S) (left : L) → IsAnswer now answer between → IsVerdict answer true → k < max → IsWait k answer wait → IsAllowed rest wait true left → IsPaused between wait latest
        → SoFar old latest limit left (k + 1)
    SoFar-again answer wait latest left called again before_last is_wait allowed paused = record {
      before = so_far.before ++ answer ∷ [];
      tried_again = FoldsTo-push _ _ so_far.before _ answer _ so_far.tried_again
          (record { between = between; called = called; again = again; wait = wait; is_wait = is_wait; allowed = allowed; paused = paused; next = refl });
      some = omega arith;
      few = omega (arith, before_last);
    }

    pub SoFar-ended : (tried : Tried T) (left : L) → tried.attempts ≡ k → IsAnswer now tried.answer between → HasEnded IsVerdict max tried tried.end → LeavesLimit IsWait IsAllowed tried rest left tried.end
        → IsRetriedSharingWithin IsAnswer IsVerdict IsWait IsPaused IsAllowed max old between limit left tried
    SoFar-ended tried left counted called ended leaves = record {
      before = so_far.before;
      last = record { attempt = k; shared = now; limit = rest };
      tried_again = so_far.tried_again;
      called = called;
      counted = counted;
      few = omega (arith, counted, so_far.few);
      ended = ended;
      left = leaves;
    }

  -- the attempts of a fold are numbered upwards
  attempts_rise : (before : List T) (x last : RoundSharing S L) → FoldsTo (IsTriedAgainSharing IsAnswer IsVerdict IsWait IsPaused IsAllowed) x before last → x.attempt ≤ last.attempt
  attempts_rise [] x last p = let same : x.attempt ≡ last.attempt = cc in omega (arith, same)
  attempts_rise (o ∷ before) x last p =
      let later = attempts_rise before p.0 last p.2 in
      let next = p.1.next in
      omega (arith, later, next)

  -- what each attempt that is tried again keeps, with the wait after it
  module _ (J : ℕ → S → Type 0)
      (step : (k : ℕ) (s : S) (answer : T) (between : S) (wait : ℕ) (later : S) → J k s → k < max → IsAnswer s answer between → IsVerdict answer true → IsWait k answer wait → IsPaused between wait later → J (k + 1) later) where
    kept : (before : List T) (x last : RoundSharing S L) → FoldsTo (IsTriedAgainSharing IsAnswer IsVerdict IsWait IsPaused IsAllowed) x before last → last.attempt ≤ max → J x.attempt x.shared → J last.attempt last.shared
    kept [] x last p few j = subst (λ (t : RoundSharing S L). J t.attempt t.shared) p j
    kept (o ∷ before) x last p few j =
        let later = attempts_rise before p.0 last p.2 in
        let next = p.1.next in
        let before_last : x.attempt < max = omega (arith, later, next, few) in
        kept before p.0 last p.2 few
        (subst (λ k. J k p.0.shared) (sym next) (step x.attempt x.shared o p.1.between p.1.wait p.0.shared j before_last p.1.called p.1.again p.1.is_wait p.1.paused))

    -- it holds before the last attempt
    pub IsRetriedSharingWithin-keeps : (old new : S) (limit rest : L) (tried : Tried T) (retried : IsRetriedSharingWithin IsAnswer IsVerdict IsWait IsPaused IsAllowed max old new limit rest tried) → J 1 old
        → J retried.last.attempt retried.last.shared
    IsRetriedSharingWithin-keeps old new limit rest tried retried j =
        kept retried.before (record { attempt = 1; shared = old; limit = limit }) retried.last retried.tried_again (subst (λ n. n ≤ max) retried.counted retried.few) j

-- the same without a limit
module _ {T S : Type 0} (IsAnswer : S → T → S → Type 0) (IsVerdict : T → Bool → Type 0) (IsWait : ℕ → ℕ → Type 0) (IsPaused : S → ℕ → S → Type 0) (max : ℕ) (J : ℕ → S → Type 0)
    (step : (k : ℕ) (s : S) (answer : T) (between : S) (wait : ℕ) (later : S) → J k s → k < max → IsAnswer s answer between → IsVerdict answer true → IsWait k wait → IsPaused between wait later → J (k + 1) later)
    (old new : S) (tried : Tried T) (retried : IsRetriedSharing IsAnswer IsVerdict IsWait IsPaused max old new tried) where
  pub IsRetriedSharing-keeps : J 1 old → J retried.last.attempt retried.last.shared
  IsRetriedSharing-keeps = IsRetriedSharingWithin-keeps IsAnswer IsVerdict (λ attempt _ wait. IsWait attempt wait) IsPaused Unlimited max J step old new (record {}) (record {}) tried retried
