-- What a clock says, and how much of a time is left by it. Times are in nanoseconds.
use Rattle.std.specs.Prelude.{◌≡◌, ℕ, ◌<◌, ◌≤◌, ◌+◌, ◌-◌, Option, Some, None}
use Rattle.std.specs.Duration.{as_nanos}
use Rattle.std.specs.Time.{instant_nanos}
use Rattle.std.specs.declared.time.Duration.{Duration}
use Rattle.std.specs.declared.time.Instant.{Instant}

-- what a clock has said after an earlier reading, or after none: nothing if it couldn't be read
abbrev pub Readings : Type 1
Readings = Option Instant → Option Instant → Type 0

-- by what the clock said, which may be nothing, the longest time since the start is over
abbrev pub IsOverBy : Instant → ℕ → Option Instant → Type 0
IsOverBy start longest None = Unit {0}
IsOverBy start longest (Some now) = longest ≤ instant_nanos now - instant_nanos start

-- by what the clock said this much of the longest time since the start is left: nothing if the clock said nothing, or the time is over
abbrev pub IsLeftBy : Instant → ℕ → Option Instant → Option Duration → Type 0
IsLeftBy start longest said None = IsOverBy start longest said
IsLeftBy start longest None (Some left) = ⊥
IsLeftBy start longest (Some now) (Some left) = (0 < as_nanos left) × (instant_nanos now - instant_nanos start + as_nanos left ≡ longest)
