-- The equality of two texts, as a test.
use Rattle.std.specs.Prelude.{ℕ, Bool, List}
use lib.Dec.{eqb}
use lib.Pointwise.{pointwise}

-- whether two texts have the same bytes
abbrev pub is_same : List ℕ → List ℕ → Bool
is_same a b = pointwise eqb a b
