-- The sizes of a resize that two fields are read as.
use Rattle.std.specs.Prelude.{ℕ, ◌≡◌, ◌<◌, ◌^◌, List, Option, Some, option_map, option_and_then, decimal}
use Rattle.resil_input.specs.Number.{parse_from_zero}

-- a size, from 0 to 4,294,967,295, that a field is read as
abbrev pub parse_size : List ℕ → Option ℕ
parse_size field = parse_from_zero (2 ^ 32) field

-- a core size and a maximum size
abbrev pub parse_sizes : List ℕ → List ℕ → Option (ℕ × ℕ)
parse_sizes core max = option_and_then (λ c. option_map (λ m. (c, m)) (parse_size max)) (parse_size core)

-- A size is read from its decimal text.
abbrev pub SizesRoundTrip : Type 0
SizesRoundTrip = (n : ℕ) → n < 2 ^ 32 → parse_size (decimal n) ≡ Some n

-- What is read as a size is its decimal text, and the size is from 0 to 4,294,967,295.
abbrev pub SizesAreDecimal : Type 0
SizesAreDecimal = (field : List ℕ) (n : ℕ) → parse_size field ≡ Some n → (field ≡ decimal n) × (n < 2 ^ 32)
