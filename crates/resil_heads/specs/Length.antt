-- How long an input may be, and its head.
use Rattle.std.specs.Prelude.{ℕ, ◌-◌, ◌&&◌, ◌||◌, Bool, true, List, Option, Some, None, length, nat_lt}
use Rattle.resil_input.specs.Framing.{parts_of}
use Rattle.resil_input.specs.Io.{input_limit}

-- the head and the separator line of an input that splits into these parts have more than a mebibyte together, or no line separates them
abbrev pub is_head_long : List ℕ → Option (List ℕ × List ℕ) → Bool
is_head_long input None = true
is_head_long input (Some parts) = nat_lt input_limit (length input - length parts.1)

-- the input is longer than a head may be, and its head is too
abbrev pub has_long_head : List ℕ → Bool
has_long_head input = nat_lt input_limit (length input) && is_head_long input (parts_of input)

-- the input is longer than this limit, or its head is too long
abbrev pub is_too_long : ℕ → List ℕ → Bool
is_too_long limit input = nat_lt limit (length input) || has_long_head input
