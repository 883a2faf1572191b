-- Recorded waits, in milliseconds.
use Rattle.std.specs.Prelude.{ℕ, ◌≡◌, ◌-◌, ◌++◌, List, length, take}

-- the waits recorded so far, in order, and how many more can be recorded
pub record WaitsView : Type 0 where
  pub items : List ℕ
  pub room : ℕ

-- the first of these waits were recorded, as many as there was room for, in their order
pub record AreRecorded (old : WaitsView) (waits : List ℕ) (new : WaitsView) : Type 0 where
  pub items : new.items ≡ old.items ++ take old.room waits
  pub room : new.room ≡ old.room - length waits
