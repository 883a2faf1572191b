-- What a retry does (Resilience4j user guide, Retry), over any call. What it says of answers, waits, pauses and the limit is
-- what the call, the backoff, the pause and the limit say of them. The plain retry is the one without a limit.
use Rattle.std.specs.Prelude.{ℕ, ◌≡◌, ◌+◌, ◌≤◌, ◌<◌, Bool, true, false, List}
use Rattle.std.specs.List.{FoldsTo}
use Rattle.resil_call.specs.Limit.{Unlimited}
use Rattle.resil_call.specs.declared.limit.NoLimit.{NoLimit}
use Rattle.resil_call.specs.declared.tried.End.{End}
use Rattle.resil_call.specs.declared.tried.End.TheVariants.{Accepted, Exhausted, OutOfTime}
use Rattle.resil_call.specs.declared.tried.Tried.{Tried}

-- before an attempt: its number, counted from 1, the function, the pause, and the limit of the waits
pub record RoundWithin (C P L : Type 0) : Type 0 where
  pub attempt : ℕ
  pub call : C
  pub pause : P
  pub limit : L

-- why a retry ended, if it may make at most `max` attempts
abbrev pub HasEnded : {T : Type 0} → (T → Bool → Type 0) → ℕ → Tried T → End → Type 0
HasEnded IsVerdict max tried Accepted = IsVerdict tried.answer false
HasEnded IsVerdict max tried Exhausted = IsVerdict tried.answer true × (tried.attempts ≡ max)
HasEnded IsVerdict max tried OutOfTime = IsVerdict tried.answer true × (tried.attempts < max)

-- how the end left the limit: it decides on the wait after the last attempt only if another attempt may follow, and a
-- limit that allows it doesn't end the retry
abbrev pub LeavesLimit : {T L : Type 0} → (ℕ → T → ℕ → Type 0) → (L → ℕ → Bool → L → Type 0) → Tried T → L → L → End → Type 0
LeavesLimit IsWait IsAllowed tried limit rest Accepted = rest ≡ limit
LeavesLimit IsWait IsAllowed tried limit rest Exhausted = rest ≡ limit
LeavesLimit IsWait IsAllowed tried limit rest OutOfTime = (wait : ℕ) × IsWait tried.attempts tried.answer wait × IsAllowed limit wait false rest

module _ {T C P L : Type 0} (IsAnswer : C → T → C → Type 0) (IsVerdict : T → Bool → Type 0) (IsWait : ℕ → T → ℕ → Type 0) (IsPaused : P → ℕ → P → Type 0) (IsAllowed : L → ℕ → Bool → L → Type 0) where
  -- one attempt, whose answer is to be tried again, then the wait of this attempt, which the limit allowed
  pub record IsTriedAgainWithin (x : RoundWithin C P L) (answer : T) (y : RoundWithin C P L) : Type 0 where
    pub called : IsAnswer x.call answer y.call
    pub again : IsVerdict answer true
    pub wait : ℕ
    pub is_wait : IsWait x.attempt answer wait
    pub allowed : IsAllowed x.limit wait true y.limit
    pub paused : IsPaused x.pause wait y.pause
    pub next : y.attempt ≡ x.attempt + 1

  -- attempts whose answers are to be tried again, one after the other, then the last attempt, which no wait follows
  pub record IsRetriedWithin (max : ℕ) (call after : C) (pause later : P) (limit rest : L) (tried : Tried T) : Type 0 where
    pub before : List T
    pub last : RoundWithin C P L
    pub tried_again : FoldsTo IsTriedAgainWithin (record { attempt = 1; call = call; pause = pause; limit = limit }) before last
    pub called : IsAnswer last.call tried.answer after
    pub no_wait : later ≡ last.pause
    pub counted : tried.attempts ≡ last.attempt
    pub few : tried.attempts ≤ max
    pub ended : HasEnded IsVerdict max tried tried.end
    pub left : LeavesLimit IsWait IsAllowed tried last.limit rest tried.end

-- the same without a limit, if the wait follows from the attempt alone
abbrev pub Round : Type 0 → Type 0 → Type 0
Round C P = RoundWithin C P NoLimit

module _ {T C P : Type 0} (IsAnswer : C → T → C → Type 0) (IsVerdict : T → Bool → Type 0) (IsWait : ℕ → ℕ → Type 0) (IsPaused : P → ℕ → P → Type 0) where
  abbrev pub IsTriedAgain : Round C P → T → Round C P → Type 0
  IsTriedAgain = IsTriedAgainWithin IsAnswer IsVerdict (λ attempt _ wait. IsWait attempt wait) IsPaused Unlimited

  abbrev pub IsRetried : ℕ → C → C → P → P → Tried T → Type 0
  IsRetried max call after pause later tried =
      IsRetriedWithin IsAnswer IsVerdict (λ attempt _ wait. IsWait attempt wait) IsPaused Unlimited max call after pause later (record {}) (record {}) tried
