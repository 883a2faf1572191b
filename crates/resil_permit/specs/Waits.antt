-- What a call that waits for a permit did before its last try.
use Rattle.std.specs.Prelude.{◌≡◌, ℕ, zero, suc, ◌<◌, Bool, true, false}
use Rattle.resil_clock.specs.Readings.{Readings}
use Rattle.resil_clock.specs.Waits as clock
use Rattle.resil_permit.specs.declared.permits.Attempt.{Attempt}
use Rattle.resil_permit.specs.declared.permits.Attempt.TheVariants.{Taken, Full, Contended}
use Rattle.resil_permit.specs.Passes.{PassView, IsSamePass}
use Rattle.resil_permit.specs.TryAcquire.{IsTry}

-- p became q by this number of tries. Each was refused: exactly the permits in use were held at that point. After each of them
-- less than the longest wait was spent, both in nanoseconds. What a clock reads isn't a part of it
abbrev pub IsRefusedTimes : ℕ → ℕ → PassView → PassView → Type 0
IsRefusedTimes longest zero p q = q ≡ p
IsRefusedTimes longest (suc n) p q = (between : PassView) × (spent : ℕ) × IsRefusedTimes longest n p between × IsSamePass between q × IsTry between q Full × (spent < longest)

-- the pass has waited for at most `longest` nanoseconds: what it wrote is real refusals, one after the other, or nothing
pub record HasWaited (longest : ℕ) (p q : PassView) : Type 0 where
  pub refusals : ℕ
  pub refused : IsRefusedTimes longest refusals p q
  pub same : IsSamePass p q

-- one try that was refused
pub record IsRefusedTry (p q : PassView) : Type 0 where
  pub same : IsSamePass p q
  pub tried : IsTry p q Full

-- a try that doesn't take a permit is refused
abbrev pub is_refused : Attempt → Bool
is_refused Taken = false
is_refused Full = true
is_refused Contended = true

-- Before a last try with this result, of this number of permits, the pass has waited by a clock: as long as some of the time was left, and
-- no longer. If there are no permits at all, a wait would be in vain.
abbrev pub HasWaitedBy : Readings → ℕ → ℕ → PassView → PassView → Attempt → Type 0
HasWaitedBy HasSaid longest max p waited attempt = clock.HasWaited HasSaid longest IsRefusedTry (max ≡ 0) p waited (is_refused attempt)
