-- How long a retry waits after each attempt, in milliseconds, as unbounded whole numbers
-- (Resilience4j user guide, Retry, interval functions).
use Rattle.std.specs.Prelude.{ℕ, zero, suc, ◌-◌, ◌*◌, ◌/◌, ◌≤◌, min}
use Rattle.resil_retry.specs.declared.interval.Backoff.{Backoff}
use Rattle.resil_retry.specs.declared.interval.Backoff.TheVariants.{Fixed, Exponential}

-- the longest wait, in milliseconds: 365 days
abbrev pub interval_limit : ℕ
interval_limit = 31536000000

-- what an initial wait grows to in this number of steps: each step multiplies by a fraction and truncates
unfoldable pub uncapped_wait : ℕ → ℕ → ℕ → ℕ → ℕ
uncapped_wait initial numerator denominator zero = initial
uncapped_wait initial numerator denominator (suc steps) = uncapped_wait initial numerator denominator steps * numerator / denominator

-- the wait after attempt k. Attempts are numbered from 1
abbrev pub interval : Backoff → ℕ → ℕ
interval (Fixed ms) k = ms
interval (Exponential initial numerator denominator cap) k = min (uncapped_wait initial numerator denominator (k - 1)) cap

-- a fraction of at least 1, with terms of at most 1,000
abbrev pub IsMultiplier : ℕ → ℕ → Type 0
IsMultiplier numerator denominator = (1 ≤ denominator) × (denominator ≤ numerator) × (numerator ≤ 1000)

-- an interval that may be made: no wait is above the limit, and the cap isn't below the first wait
abbrev pub IsBackoff : Backoff → Type 0
IsBackoff (Fixed ms) = ms ≤ interval_limit
IsBackoff (Exponential initial numerator denominator cap) =
    IsMultiplier numerator denominator × (initial ≤ cap) × (cap ≤ interval_limit)
