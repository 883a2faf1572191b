-- What a caller has seen after a resize.
use Rattle.std.specs.Prelude.{◌≡◌, ◌++◌, ◌∷◌, ℕ, [], List, None}
use Rattle.resil_pool.specs.Words.{IsPrefix, Sizes, IsLegal, Resized, LoggedEvent}
use Rattle.resil_pool.specs.Lock.{log_event, events_in, own_in}

-- more is seen, a legal history, which ends with a resize to these sizes that wasn't seen before; the seat's own events are the same
pub record SeesResize (limits : Sizes) (number : ℕ) (old : List LoggedEvent) (core max : ℕ) (new : List LoggedEvent) : Type 0 where
  pub legal : IsLegal limits (events_in new)
  pub before : List LoggedEvent
  pub begins : IsPrefix old before
  pub ends : new ≡ before ++ log_event None (Resized core max) ∷ []
  pub same_own : own_in number new ≡ own_in number old
