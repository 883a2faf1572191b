-- The ids of jobs, by the keys that they are found by.
use Rattle.std.specs.Prelude.{ℕ, List, map}
use Rattle.resil_rule.specs.declared.event.Id.{Id}

-- the id of a caller and a number
abbrev pub id_of : (ℕ × ℕ) → Id
id_of key = record { caller = key.0; number = key.1 }

abbrev pub ids_of : List (ℕ × ℕ) → List Id
ids_of keys = map id_of keys
