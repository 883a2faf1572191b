-- Histories with times: their events, their times, and the order of these.
use Rattle.std.specs.Prelude.{ℕ, ◌≤◌, ◌<◌, ◌+◌, ◌-◌, List, length, map, slice_index, take}
use Rattle.resil_rule.specs.declared.event.Event.{Event}
use Rattle.resil_rule.specs.declared.timed.Timed.{Timed}

-- the events of a history, and their times
abbrev pub events_in : List Timed → List Event
events_in history = map (λ timed. timed.event) history

abbrev pub times_in : List Timed → List ℕ
times_in history = map (λ timed. timed.at) history

-- no time is lower than the one before it
abbrev pub AreAscending : List ℕ → Type 0
AreAscending times = (k : ℕ) → k + 1 < length times → slice_index times k ≤ slice_index times (k + 1)

-- The first time that is lower than the one before it is at this position, counted from 1.
pub record GoesBackAt (times : List ℕ) (position : ℕ) : Type 0 where
  pub second : 2 ≤ position
  pub within : position ≤ length times
  pub lower : slice_index times (position - 1) < slice_index times (position - 2)
  pub first : AreAscending (take (position - 1) times)
