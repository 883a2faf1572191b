-- How full a pool is after each event of a history: numbers of the events up to it.
use Rattle.std.specs.Prelude.{ℕ, ◌≡◌, ◌+◌, ◌∷◌, [], List, Some, length, slice_get, take}
use Rattle.resil_rule.specs.Limits.{Sizes}
use Rattle.resil_jdk.specs.History.{core_size, max_size, running, waiting, workers}
use Rattle.resil_jdk.specs.declared.event.JdkEvent.{JdkEvent}
use Rattle.resil_jdk.specs.declared.event.JdkEvent.TheVariants.{Resized}
use Rattle.resil_stats.specs.declared.depth.Level.{Level}

-- How full a pool is after a history, and its sizes.
pub record IsLevelAfter (limits : Sizes) (history : List JdkEvent) (level : Level) : Type 0 where
  pub at : level.at ≡ length history
  pub waiting : level.waiting ≡ length (waiting history)
  pub running : level.running ≡ length (running history)
  pub workers : level.workers ≡ workers history
  pub core : level.core ≡ core_size limits history
  pub max : level.max ≡ max_size limits history

-- A level for each event: how full the pool is after the events up to it.
pub record AreLevelsOf (limits : Sizes) (history : List JdkEvent) (levels : List Level) : Type 0 where
  pub each : length levels ≡ length history
  pub after : (i : ℕ) (level : Level) → slice_get levels i ≡ Some level → IsLevelAfter limits (take (i + 1) history) level

-- a core size and a maximum size after one more event
abbrev pub sizes_after : ℕ × ℕ → JdkEvent → ℕ × ℕ
sizes_after sizes (Resized core max) = (core, max)
sizes_after sizes event = sizes

-- the sizes that a pool begins with. If the maximum size of a pool was raised, its recorder writes a head with the largest possible one,
-- and a resize before all else
abbrev pub opening_sizes : Sizes → List JdkEvent → ℕ × ℕ
opening_sizes limits [] = (limits.core, limits.max)
opening_sizes limits (event ∷ events) = sizes_after (limits.core, limits.max) event
