-- The columns of a history that is too long for each event to be drawn, or of a pool with too many workers for a row each. Each column has the same
-- number of events, except for the last one, or those of one of 350 equal spans of time. It has the maximum of each number.
use Rattle.std.specs.Prelude.{ℕ, ◌≡◌, ◌≤◌, ◌<◌, ◌+◌, ◌-◌, ◌*◌, ◌∷◌, ◌||◌, [], Bool, List, Option, Some, None, count_by, drop, fold, length, map, max, min, nat_lt, slice_get, take}
use Rattle.resil_jdk.specs.declared.event.JdkEvent.{JdkEvent}
use Rattle.resil_stats.specs.Axis.{IsSpanEnd}
use Rattle.resil_stats.specs.Stats.{is_full, is_refused_closed}
use Rattle.resil_stats.specs.declared.columns.Column.{Column}
use Rattle.resil_stats.specs.declared.depth.Level.{Level}
use Rattle.resil_stats.specs.declared.window.Window.{Window}

-- How many events make a column: the smallest number that gives at most 350 columns.
pub record IsWidth (events width : ℕ) : Type 0 where
  pub enough : events ≤ 350 * width
  pub least : (other : ℕ) → events ≤ 350 * other → width ≤ other

-- the greatest of some numbers, 0 if there are none
abbrev pub greatest : List ℕ → ℕ
greatest numbers = fold max 0 numbers

-- the elements at the places from one to another, both included; places count from 1
abbrev pub stretch : {A : Type 0} → ℕ → ℕ → List A → List A
stretch from to xs = take (to + 1 - from) (drop (from - 1) xs)

-- None of the first `count` levels has more running jobs than the peak, and each level before the peak has fewer.
pub record IsPeakAmong (levels : List Level) (count : ℕ) (peak : Level) : Type 0 where
  pub first : (index : ℕ) × (slice_get levels index ≡ Some peak) × ((i : ℕ) (other : Level) → i < index → slice_get levels i ≡ Some other → other.running < peak.running)
  pub no_more : (i : ℕ) (other : Level) → i < count → slice_get levels i ≡ Some other → other.running ≤ peak.running

-- the place of the first level at which the most jobs run
abbrev pub IsPeak : List Level → ℕ → Type 0
IsPeak levels place = (peak : Level) × IsPeakAmong levels (length levels) peak × (place ≡ peak.at)

-- A column has the numbers of its events, and of the levels after them.
pub record IsColumnOf (events : List JdkEvent) (levels : List Level) (column : Column) : Type 0 where
  pub from : 1 ≤ column.from
  pub order : column.from ≤ column.to
  pub to : column.to ≤ length events
  pub waiting : column.waiting ≡ greatest (map (λ level. level.waiting) (stretch column.from column.to levels))
  pub peak : IsPeak (stretch column.from column.to levels) column.peak
  pub workers : column.workers ≡ greatest (map (λ level. level.workers) (stretch column.from column.to levels))
  pub full : column.full ≡ count_by is_full (stretch column.from column.to events)
  pub closed : column.closed ≡ count_by is_refused_closed (stretch column.from column.to events)

-- a column has the pool's sizes after its last event
abbrev pub HasLastSizes : List Level → Column → Type 0
HasLastSizes levels column = (last : Level) × (slice_get levels (column.to - 1) ≡ Some last) × (column.core ≡ last.core) × (column.max ≡ last.max)

-- where a column of a window ends that begins after the first `done` events. Without times a column has as many events as the width for at most 350
-- columns, and the last one has those that are left. By their times it has all events that follow in the same span
abbrev pub IsColumnEnd : Option (List ℕ) → Window → ℕ → ℕ → Type 0
IsColumnEnd None window done end = (width : ℕ) × IsWidth (window.end - window.before) width × (end ≡ min (done + width) window.end)
IsColumnEnd (Some times) window done end = IsSpanEnd times window.period window.end done end

-- The columns of the events of a window after the first `done` ones: one follows the other, and the last one goes up to the end.
abbrev pub AreColumnsFrom : List JdkEvent → List Level → Option (List ℕ) → Window → ℕ → ℕ → List Column → Type 0
AreColumnsFrom events levels times window done end [] = done ≡ end
AreColumnsFrom events levels times window done end (column ∷ columns) =
    IsColumnOf events levels column × HasLastSizes levels column × (column.from ≡ done + 1) × IsColumnEnd times window done column.to × AreColumnsFrom events levels times window column.to end columns

-- the columns of a window of a history, whose events may have times
abbrev pub AreColumnsOf : List JdkEvent → List Level → Option (List ℕ) → Window → List Column → Type 0
AreColumnsOf events levels times window columns = AreColumnsFrom events levels times window window.before window.end columns

-- whether the events of a window are gathered into columns: there are more than 4,000 of them, or the history with these levels had more than 64 workers
-- at once
abbrev pub is_gathered : Window → List Level → Bool
is_gathered window levels = nat_lt 4000 (window.end - window.before) || nat_lt 64 (greatest (map (λ level. level.workers) levels))
