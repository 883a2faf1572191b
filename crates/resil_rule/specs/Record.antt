-- What a record holds of a history: all its events, or the last ones.
use Rattle.std.specs.Prelude.{ℕ, ◌≡◌, ◌-◌, ◌^◌, List, length, drop, min}
use Rattle.resil_rule.specs.declared.event.Event.{Event}

-- all events, oldest first, and how many more there is memory for
pub record AllView : Type 0 where
  pub events : List Event
  pub room : ℕ

-- the last events, oldest first; how many it keeps at most; and how many were lost, by a count that stops at the largest number of 64 bits
pub record LastView : Type 0 where
  pub events : List Event
  pub capacity : ℕ
  pub lost : ℕ

-- how many events of a history are lost if only this many are kept: those before the last ones
abbrev pub lost_of : ℕ → List Event → ℕ
lost_of capacity history = length history - capacity

-- The last events of a history: the history without the lost ones, and no more events were lost than had to be.
pub record IsLastOf (history : List Event) (last : LastView) : Type 0 where
  pub events : last.events ≡ drop (lost_of last.capacity history) history
  pub lost : last.lost ≡ min (lost_of last.capacity history) (2 ^ 64 - 1)
