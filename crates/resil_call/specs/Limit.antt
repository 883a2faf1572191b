-- Limits of the waits of a retry.
use Rattle.std.specs.Prelude.{ℕ, ◌≡◌, ◌+◌, ◌-◌, ◌*◌, ◌≤◌, Bool, false, IsTrue, ◌↔◌, cond, Option, Some, None}
use Rattle.std.specs.Time.{instant_nanos}
use Rattle.std.specs.declared.time.Instant.{Instant}
use Rattle.resil_clock.specs.Readings.{Readings}
use Rattle.resil_call.specs.declared.limit.NoLimit.{NoLimit}
use Rattle.resil_call.specs.declared.limit.WaitBudget.{WaitBudget}

-- every wait may begin
abbrev pub Unlimited : NoLimit → ℕ → Bool → NoLimit → Type 0
Unlimited = λ _ _ allowed _. IsTrue allowed

-- a wait may begin if that much of the budget is left, and is then taken off
abbrev pub IsSpent : WaitBudget → ℕ → Bool → WaitBudget → Type 0
IsSpent x milliseconds allowed y = (IsTrue allowed ↔ (milliseconds ≤ x.0)) × (y.0 ≡ cond allowed (x.0 - milliseconds) x.0)

-- by what the clock said, a wait of `milliseconds` may begin exactly if it ends in time, and none if the clock couldn't be read
abbrev pub IsInTimeBy : ℕ → Instant → ℕ → Option Instant → Bool → Type 0
IsInTimeBy length start milliseconds None allowed = allowed ≡ false
IsInTimeBy length start milliseconds (Some now) allowed = IsTrue allowed ↔ (instant_nanos now - instant_nanos start + milliseconds * 1000000 ≤ length)

-- by a reading of the clock after the start; without a start no wait may begin
abbrev pub IsInTime : Readings → ℕ → Option Instant → ℕ → Bool → Type 0
IsInTime HasSaid length None milliseconds allowed = allowed ≡ false
IsInTime HasSaid length (Some start) milliseconds allowed = (said : Option Instant) × HasSaid (Some start) said × IsInTimeBy length start milliseconds said allowed
