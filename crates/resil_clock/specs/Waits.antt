-- A wait for at most a given time, in nanoseconds, by the readings of a clock.
use Rattle.std.specs.Prelude.{◌≡◌, ℕ, zero, suc, ◌<◌, ◌-◌, ◌⊎◌, Bool, true, false, Option, Some, None}
use Rattle.std.specs.Time.{instant_nanos}
use Rattle.std.specs.declared.time.Instant.{Instant}
use Rattle.resil_clock.specs.Readings.{Readings, IsOverBy}

module _ (HasSaid : Readings) (longest : ℕ) (start : Instant) where
  -- The clock was read this many times, each time after the reading before, and by each reading less than the longest time since the start was spent.
  abbrev pub IsReadTimes : ℕ → Instant → Type 0
  IsReadTimes zero last = last ≡ start
  IsReadTimes (suc n) last = (before : Instant) × IsReadTimes n before × HasSaid (Some before) (Some last) × (instant_nanos last - instant_nanos start < longest)

  -- The clock was read again and again, from the start to the last reading, and by each reading some of the time was left.
  pub record HasReadUntil (last : Instant) : Type 0 where
    pub times : ℕ
    pub read : IsReadTimes times last

  -- The clock was read once more, after the last reading, and by that the time is over, or the clock couldn't be read.
  pub record IsOverAfter (last : Instant) : Type 0 where
    pub said : Option Instant
    pub ends : HasSaid (Some last) said
    pub over : IsOverBy start longest said

  -- If the try was refused, the time is over.
  abbrev pub IsOverIf : Bool → Instant → Type 0
  IsOverIf true last = IsOverAfter last
  IsOverIf false last = Unit {0}

  module _ {S : Type 0} (IsRefused : S → S → Type 0) where
    -- The try was refused this many times, and after each refusal the clock was read, as above.
    abbrev pub IsRefusedTimes : ℕ → S → S → Instant → Type 0
    IsRefusedTimes zero x y last = (y ≡ x) × (last ≡ start)
    IsRefusedTimes (suc n) x y last =
        (between : S) × (before : Instant) × IsRefusedTimes n x between before × IsRefused between y
        × HasSaid (Some before) (Some last) × (instant_nanos last - instant_nanos start < longest)

    -- The try was refused again and again, and each time some of the time was left by a reading of its own.
    pub record HasWaitedUntil (x y : S) (last : Instant) : Type 0 where
      pub refusals : ℕ
      pub refused : IsRefusedTimes refusals x y last

    -- The same, and if the try from state y is refused too, the time is over.
    pub record HasWaitedSince (x y : S) (refused : Bool) : Type 0 where
      pub last : Instant
      pub in_time : HasWaitedUntil x y last
      pub over : IsOverIf refused last

module _ (HasSaid : Readings) (longest : ℕ) where
  module _ {S : Type 0} (IsRefused : S → S → Type 0) where
    -- The first try was refused, then the clock was read for the first time, and the wait began.
    pub record HasWaitedLong (x y : S) (refused : Bool) : Type 0 where
      pub some : 0 < longest
      pub first : S
      pub at_first : IsRefused x first
      pub start : Instant
      pub begun : HasSaid None (Some start)
      pub since : HasWaitedSince HasSaid longest start IsRefused first y refused

    -- The first try is the last one: it isn't refused, or there is no time to wait, or the wait is in vain, or the clock couldn't be read.
    pub record HasNotWaited (IsInVain : Type 0) (x y : S) (refused : Bool) : Type 0 where
      pub same : y ≡ x
      pub why : (refused ≡ false) ⊎ (longest ≡ 0) ⊎ IsInVain ⊎ HasSaid None None

    -- What came before the last try, which is refused or isn't: the wait lasted as long as some of the time was left, and no longer.
    abbrev pub HasWaited : Type 0 → S → S → Bool → Type 0
    HasWaited IsInVain x y refused = HasNotWaited IsInVain x y refused ⊎ HasWaitedLong x y refused

  -- The clock was read at the start, then again and again while some of the time was left, and at the end the time was over, or the clock
  -- couldn't be read. Nothing is said about what was refused.
  pub record HasRunOut : Type 0 where
    pub start : Instant
    pub begun : HasSaid None (Some start)
    pub last : Instant
    pub read : HasReadUntil HasSaid longest start last
    pub over : IsOverAfter HasSaid longest start last

  -- The time is over by the clock, or the clock couldn't be read at the start.
  abbrev pub IsOutOfTime : Type 0
  IsOutOfTime = HasSaid None None ⊎ HasRunOut
