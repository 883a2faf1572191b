-- An input as a head, a separator line and a body.
use Rattle.std.specs.Prelude.{ℕ, ◌==◌, ◌||◌, ◌++◌, ◌∷◌, Bool, List, [], Option, Some, None, codes, if◌then◌else◌, option_map}
use Rattle.std.specs.List.{concat}
use Rattle.resil_input.specs.TextEquality.{is_same}

-- one more byte at the front of the first line
abbrev pub onto_first : ℕ → List (List ℕ) → List (List ℕ)
onto_first byte [] = (byte ∷ []) ∷ []
onto_first byte (line ∷ lines) = (byte ∷ line) ∷ lines

-- the lines of a text, each with its line feed (10), which the last one may lack
unfoldable pub lines_of : List ℕ → List (List ℕ)
lines_of [] = []
lines_of (byte ∷ rest) = if byte == 10 then (byte ∷ []) ∷ lines_of rest else onto_first byte (lines_of rest)

-- a line of just three dashes, apart from its line end, which the last line may lack
abbrev pub is_separator : List ℕ → Bool
is_separator line = is_same line (codes "---\n") || is_same line (codes "---\r\n") || is_same line (codes "---")

-- more text at the front of the head
abbrev pub with_prefix : List ℕ → Option (List ℕ × List ℕ) → Option (List ℕ × List ℕ)
with_prefix prefix parts = option_map (λ p. (prefix ++ p.0, p.1)) parts

-- what is before the first separator line, and what is after it, if there is one
unfoldable pub cut_at_separator : List (List ℕ) → Option (List ℕ × List ℕ)
cut_at_separator [] = None
cut_at_separator (line ∷ lines) =
    if is_separator line then Some ([], concat lines) else with_prefix line (cut_at_separator lines)

-- the head and the body of an input, if it has a separator line
abbrev pub parts_of : List ℕ → Option (List ℕ × List ℕ)
parts_of input = cut_at_separator (lines_of input)
