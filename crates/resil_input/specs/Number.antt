-- The numbers in the fields of a body, and what a field is read as.
use Rattle.std.specs.Prelude.{ℕ, ◌≡◌, ◌≤◌, ◌<◌, ◌^◌, ◌==◌, ◌&&◌, not, Bool, false, List, [], ◌∷◌, Option, Some, None, if◌then◌else◌, nat_lt, codes}
use Rattle.std.specs.Fmt.{decimal}
use Rattle.std.specs.Str.{all_ascii_digits}
use Rattle.std.specs.Str.Parse.{digits_value}
use Rattle.resil_input.specs.TextEquality.{is_same}

-- one or more digits; the first isn't 0 (byte 48)
abbrev pub is_numeral : List ℕ → Bool
is_numeral [] = false
is_numeral (digit ∷ digits) = not (digit == 48) && all_ascii_digits (digit ∷ digits)

-- the number whose text a field is, if it is below a bound
abbrev pub parse_number_below : ℕ → List ℕ → Option ℕ
parse_number_below bound field = if is_numeral field && nat_lt (digits_value 10 field) bound then Some (digits_value 10 field) else None

-- a number from 1 to 2 ^ 64 - 1
abbrev pub parse_number : List ℕ → Option ℕ
parse_number field = parse_number_below (2 ^ 64) field

-- a caller, from 1 to 65,535
abbrev pub parse_caller : List ℕ → Option ℕ
parse_caller field = parse_number_below (2 ^ 16) field

-- 0, or a number below a bound
abbrev pub parse_from_zero : ℕ → List ℕ → Option ℕ
parse_from_zero bound field = if is_same field (codes "0") then Some 0 else parse_number_below bound field

-- A number is read from its decimal text.
abbrev pub NumbersRoundTrip : Type 0
NumbersRoundTrip = (n : ℕ) → 1 ≤ n → n < 2 ^ 64 → parse_number (decimal n) ≡ Some n

-- A text that is read as a number is its decimal text, and the number is from 1 to 2 ^ 64 - 1.
abbrev pub NumbersAreDecimal : Type 0
NumbersAreDecimal = (field : List ℕ) (n : ℕ) → parse_number field ≡ Some n → (field ≡ decimal n) × (1 ≤ n) × (n < 2 ^ 64)
