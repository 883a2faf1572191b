-- What a call that waits for the end of all jobs saw, and what its clock said.
use Rattle.std.specs.Prelude.{◌≡◌, ◌+◌, ℕ, Bool, not}
use Rattle.std.specs.declared.time.Instant.{Instant}
use Rattle.resil_clock.specs.Readings.{Readings}
use Rattle.resil_clock.specs.Waits.{HasWaited, HasWaitedSince}
use Rattle.resil_executor.specs.Words.{Sizes, View}
use Rattle.resil_executor.specs.Log.{Entry, events_in}
use Rattle.resil_executor.specs.Turn.{SeesMore, AllFinished}

module _ {W K : Type 0} where
  -- one turn, which wrote nothing
  pub record IsLook (limits : Sizes) (before after : View K (Entry W)) : Type 0 where
    pub sees : SeesMore limits before after
    pub one_turn : after.turns ≡ before.turns + 1

  -- one poll that finds something unfinished
  pub record IsLookInVain (limits : Sizes) (before after : View K (Entry W)) : Type 0 where
    pub look : IsLook limits before after
    pub unfinished : ¬ AllFinished (events_in after.seen)

  -- Before its last poll the call has waited by a clock, as long as some of the time was left and no longer.
  abbrev pub HasJoinedBy : Readings → ℕ → Sizes → View K (Entry W) → View K (Entry W) → Bool → Type 0
  HasJoinedBy HasSaid longest limits before after joined =
      (waited : View K (Entry W)) × HasWaited HasSaid longest (IsLookInVain limits) ⊥ before waited (not joined) × IsLook limits waited after

  -- The same for the polls after a first reading of the clock.
  abbrev pub HasJoinedSince : Readings → ℕ → Instant → Sizes → View K (Entry W) → View K (Entry W) → Bool → Type 0
  HasJoinedSince HasSaid longest start limits before after joined =
      (waited : View K (Entry W)) × HasWaitedSince HasSaid longest start (IsLookInVain limits) before waited (not joined) × IsLook limits waited after
