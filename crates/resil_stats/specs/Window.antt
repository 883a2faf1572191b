-- Which events of a history a chart draws, from where to where its axis goes, and how high its scales go. A moment of a history is a time
-- in microseconds or, if its events have no times, a place from 1.
use Rattle.std.specs.Prelude.{ℕ, ◌-◌, ◌&&◌, Bool, List, Option, Some, None, count_by, is_none, max, min, nat_le, nat_lt, option_map, take, unwrap_or}
use Rattle.std.specs.Option.{option_map_or}
use Rattle.resil_stats.specs.Axis.{period_of}
use Rattle.resil_stats.specs.declared.axis.Period.{Period}
use Rattle.resil_stats.specs.declared.bars.Bar.{Bar}
use Rattle.resil_stats.specs.declared.marks.Mark.{Mark}
use Rattle.resil_stats.specs.declared.window.Extent.{Extent}
use Rattle.resil_stats.specs.declared.window.Window.{Window}

-- ---- The window.

-- how many of the first `count` events are before a beginning
abbrev pub before_of : Option (List ℕ) → ℕ → ℕ → ℕ
before_of None count from = min (from - 1) count
before_of (Some times) count from = count_by (λ time. nat_lt time from) (take count times)

-- how many of them are no later than an end
abbrev pub through_of : Option (List ℕ) → ℕ → ℕ → ℕ
through_of None count to = min to count
through_of (Some times) count to = count_by (λ time. nat_le time to) (take count times)

-- from the first of `count` events to the last one
abbrev pub whole_of : Option (List ℕ) → ℕ → Period
whole_of None count = record { first = 1; last = count }
whole_of (Some times) count = period_of times count

-- The window of `count` events: those that are no earlier than the beginning and no later than the end, if these are given. The axis goes
-- from the beginning to the end. If the beginning isn't given it goes from the first event, and if the end isn't, to the last one.
abbrev pub window_of : Extent → Option (List ℕ) → ℕ → Window
window_of extent times count = record {
  before = option_map_or (before_of times count) extent.from 0;
  end = max (option_map_or (before_of times count) extent.from 0) (option_map_or (through_of times count) extent.to count);
  period = record { first = unwrap_or extent.from (whole_of times count).first; last = unwrap_or extent.to (whole_of times count).last };
  is_whole = is_none extent.from && is_none extent.to;
}

-- ---- What is in it.

-- a bar reaches into a window: its job is finished after the beginning, and begun no later than the end
abbrev pub is_reached : Window → Bar → Bool
is_reached window bar = nat_lt window.before bar.to && nat_le bar.from window.end

-- a mark is in a window
abbrev pub is_marked : Window → Mark → Bool
is_marked window mark = nat_lt window.before mark.at && nat_le mark.at window.end

-- ---- Scales.

-- how high a scale goes, if that is given: as high as the numbers, if these are higher
abbrev pub height_of : Option ℕ → ℕ → Option ℕ
height_of asked most = option_map (max most) asked
