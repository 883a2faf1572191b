-- What a retry does if its calls use the value that pauses between them: both the calls and the pauses change that one value.
use Rattle.std.specs.Prelude.{ℕ, zero, suc, ◌≡◌, ◌+◌, ◌≤◌, Bool, true, List}
use Rattle.std.specs.Borrow.{MutBor}
use Rattle.std.specs.List.{FoldsTo}
use Rattle.resil_call.specs.declared.tried.Tried.{Tried}
use Rattle.resil_call.specs.Limit.{Unlimited}
use Rattle.resil_call.specs.Retry.{HasEnded, LeavesLimit}

-- a call may be made on a `&mut` to the value
abbrev pub CanCallAt : {S : Type 0} → (MutBor S → Type 0) → S → Type 0
CanCallAt {S} Pre s = (lent : MutBor S) → lent.now ≡ s → Pre lent

-- a call on a `&mut` to the value may return this answer and leave the value as `next`
pub record IsAnswerAt {T S : Type 0} (Post : MutBor S → T → MutBor S → Type 0) (s : S) (answer : T) (next : S) : Type 0 where
  pub lent : MutBor S
  pub shows : lent.now ≡ s
  pub left : MutBor S
  pub met : Post lent answer left
  pub leaves : left.now ≡ next

-- before an attempt: its number, counted from 1, the value, and the limit of the waits
pub record RoundSharing (S L : Type 0) : Type 0 where
  pub attempt : ℕ
  pub shared : S
  pub limit : L

module _ {T S : Type 0} (CanCall : S → Type 0) (IsAnswer : S → T → S → Type 0) (HasRoom : S → ℕ → Type 0) (IsPaused : S → ℕ → S → Type 0) where
  -- this number of attempts can be made, whatever is answered, with a pause after each but the last
  unfoldable pub CanTry : ℕ → S → Type 0
  CanTry zero s = Unit {0}
  CanTry (suc left) s =
      CanCall s
      × ((answer : T) (next : S) → IsAnswer s answer next → 1 ≤ left
      → ((more : ℕ) × HasRoom next (1 + more)) × ((wait : ℕ) (later : S) → IsPaused next wait later → CanTry left later))

module _ {T S L : Type 0} (IsAnswer : S → T → S → Type 0) (IsVerdict : T → Bool → Type 0) (IsWait : ℕ → T → ℕ → Type 0) (IsPaused : S → ℕ → S → Type 0) (IsAllowed : L → ℕ → Bool → L → Type 0) where
  -- one attempt, whose answer is to be tried again, then the wait of this attempt, which the limit allowed
  pub record IsTriedAgainSharing (x : RoundSharing S L) (answer : T) (y : RoundSharing S L) : Type 0 where
    pub between : S
    pub called : IsAnswer x.shared answer between
    pub again : IsVerdict answer true
    pub wait : ℕ
    pub is_wait : IsWait x.attempt answer wait
    pub allowed : IsAllowed x.limit wait true y.limit
    pub paused : IsPaused between wait y.shared
    pub next : y.attempt ≡ x.attempt + 1

  -- attempts whose answers are to be tried again, one after the other, then the last attempt, which no wait follows
  pub record IsRetriedSharingWithin (max : ℕ) (old new : S) (limit rest : L) (tried : Tried T) : Type 0 where
    pub before : List T
    pub last : RoundSharing S L
    pub tried_again : FoldsTo IsTriedAgainSharing (record { attempt = 1; shared = old; limit = limit }) before last
    pub called : IsAnswer last.shared tried.answer new
    pub counted : tried.attempts ≡ last.attempt
    pub few : tried.attempts ≤ max
    pub ended : HasEnded IsVerdict max tried tried.end
    pub left : LeavesLimit IsWait IsAllowed tried last.limit rest tried.end

-- the same without a limit, if the wait follows from the attempt alone
abbrev pub IsRetriedSharing : {T S : Type 0} → (S → T → S → Type 0) → (T → Bool → Type 0) → (ℕ → ℕ → Type 0) → (S → ℕ → S → Type 0) → ℕ → S → S → Tried T → Type 0
IsRetriedSharing IsAnswer IsVerdict IsWait IsPaused max old new tried =
    IsRetriedSharingWithin IsAnswer IsVerdict (λ attempt _ wait. IsWait attempt wait) IsPaused Unlimited max old new (record {}) (record {}) tried
