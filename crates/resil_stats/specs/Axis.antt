-- The positions of the moments of a history in its chart, which of them share a column, and how far apart its ticks are. Times are in
-- microseconds.
use Rattle.std.specs.Prelude.{ℕ, ◌≡◌, ◌≢◌, ◌≤◌, ◌<◌, ◌⊎◌, ◌+◌, ◌-◌, ◌*◌, ◌/◌, ◌∷◌, [], Contains, List, if◌then◌else◌, max, min, nat_le, slice_index}
use Rattle.resil_stats.specs.declared.axis.Period.{Period}

-- from the first of `count` events to the last one
abbrev pub period_of : List ℕ → ℕ → Period
period_of times count = record { first = slice_index times 0; last = slice_index times (count - 1) }

-- The position of a moment.

-- The position of a moment, in hundredths of a pixel: from 92 pixels, where the first one is, to the last one at 772. All are at 92 if they
-- are one moment. A later moment is further right by the same scale, but by at least a µs, up to 786.
abbrev pub x_at : Period → ℕ → ℕ
x_at period time = min 78600 (9200 + 68000 * (time - period.first) / max 1 (period.last - period.first))

-- ---- Columns.

-- How long the span of a column is: the least length for which 350 spans hold the whole period.
pub record IsSpanLength (period : Period) (long : ℕ) : Type 0 where
  pub enough : period.last - period.first < 350 * long
  pub least : (other : ℕ) → period.last - period.first < 350 * other → long ≤ other

abbrev pub span_length : Period → ℕ
span_length period = (period.last - period.first) / 350 + 1

-- the span in which a moment lies, from 0
abbrev pub span_of : Period → ℕ → ℕ
span_of period time = (time - period.first) / span_length period

-- where the column of the span in which a moment lies ends, in hundredths of a pixel: at 772 pixels if all moments are one
abbrev pub column_end : Period → ℕ → ℕ
column_end period time = min 78600 (9200 + 68000 * (span_of period time * span_length period + span_length period) / max 1 (period.last - period.first))

-- The events after the first `done`, up to an end, are those in a row that lie in one span, out of those up to a place that are drawn in a
-- period.
pub record IsSpanEnd (times : List ℕ) (period : Period) (count done end : ℕ) : Type 0 where
  pub shared : (i : ℕ) → done ≤ i → i < end → span_of period (slice_index times i) ≡ span_of period (slice_index times done)
  pub next : end < count → span_of period (slice_index times end) ≢ span_of period (slice_index times done)

-- ---- Ticks.

-- the distances that ticks may have: 1, 2 and 5 times a power of ten up to 20 s, then 30 s, whole minutes and hours, and 1, 2 and 5 times a power of ten days
abbrev pub tick_steps : List ℕ
tick_steps =
    1 ∷ 2 ∷ 5 ∷ 10 ∷ 20 ∷ 50 ∷ 100 ∷ 200 ∷ 500
    ∷ 1000 ∷ 2000 ∷ 5000 ∷ 10000 ∷ 20000 ∷ 50000 ∷ 100000 ∷ 200000 ∷ 500000
    ∷ 1000000 ∷ 2000000 ∷ 5000000 ∷ 10000000 ∷ 20000000 ∷ 30000000
    ∷ 60000000 ∷ 120000000 ∷ 300000000 ∷ 600000000 ∷ 900000000 ∷ 1800000000
    ∷ 3600000000 ∷ 7200000000 ∷ 10800000000 ∷ 21600000000 ∷ 43200000000
    ∷ 86400000000 ∷ 172800000000 ∷ 432000000000 ∷ 864000000000 ∷ 1728000000000 ∷ 4320000000000
    ∷ 8640000000000 ∷ 17280000000000 ∷ 43200000000000 ∷ 86400000000000 ∷ 172800000000000 ∷ 432000000000000
    ∷ 864000000000000 ∷ 1728000000000000 ∷ 4320000000000000 ∷ 8640000000000000 ∷ 17280000000000000 ∷ 43200000000000000
    ∷ 86400000000000000 ∷ 172800000000000000 ∷ 432000000000000000 ∷ 864000000000000000 ∷ 1728000000000000000 ∷ 4320000000000000000 ∷ []

-- How far apart the ticks of a period of this length are: the widest distance at which there are five or more ticks, which is four steps; 1
-- µs if there is none.
pub record IsTickStep (long step : ℕ) : Type 0 where
  pub known : (step ≡ 1) ⊎ (Contains tick_steps step × (4 * step ≤ long))
  pub widest : (other : ℕ) → Contains tick_steps other → 4 * other ≤ long → other ≤ step

-- The unit of ticks that are this far apart in a period of this length. It is days, hours or minutes for ticks of that distance or more.
-- For closer ticks it is the widest of a second, a millisecond and a microsecond that isn't longer than the period.
abbrev pub tick_unit : ℕ → ℕ → ℕ
tick_unit long step =
    if nat_le 86400000000 step then 86400000000
    else if nat_le 3600000000 step then 3600000000
    else if nat_le 60000000 step then 60000000
    else if nat_le 1000000 long then 1000000
    else if nat_le 1000 long then 1000
    else 1
