-- The texts of signed integers, of kinds of error and of outcomes, and what such a text is read as.
use Rattle.std.specs.Prelude.{ℕ, ℤ, pos, neg_ℤ, ◌≡◌, ◌<◌, ◌^◌, ◌==◌, ◌++◌, ◌∷◌, ◌↔◌, [], List, Option, Some, None, if◌then◌else◌, codes, nat_lt, nat_le, option_map, option_and_then, FitsSigned}
use Rattle.std.specs.Fmt.{decimal, signed_decimal}
use Rattle.std.specs.Int.{w64}
use Rattle.resil_retry.specs.declared.outcome.Kind.{Kind}
use Rattle.resil_retry.specs.declared.outcome.Kind.TheVariants.{Code, Full, Exceeded}
use Rattle.resil_retry.specs.declared.outcome.Outcome.{Outcome}
use Rattle.resil_retry.specs.declared.outcome.Outcome.TheVariants.{Value, Error}
use Rattle.resil_input.specs.Number.{parse_number}
use Rattle.resil_input.specs.TextEquality.{is_same}

-- ---- What is written.

-- the text of a kind of error
abbrev pub kind_text : Kind → List ℕ
kind_text (Code code) = codes "E" ++ decimal code
kind_text Full = codes "FULL"
kind_text Exceeded = codes "EXCEEDED"

-- the text of an outcome
abbrev pub outcome_text : Outcome → List ℕ
outcome_text (Value value) = codes "V" ++ signed_decimal value
outcome_text (Error kind) = kind_text kind

-- ---- What is read.

-- an integer from 0 on, if it is below 2 ^ 63
abbrev pub non_negative : ℕ → Option ℤ
non_negative size = if nat_lt size (2 ^ 63) then Some (pos size) else None

-- an integer below 0, if it is at least -2 ^ 63
abbrev pub negative : ℕ → Option ℤ
negative size = if nat_le size (2 ^ 63) then Some (neg_ℤ (pos size)) else None

-- a minus (45) and a number, or a number
abbrev pub parse_nonzero_signed : List ℕ → Option ℤ
parse_nonzero_signed [] = None
parse_nonzero_signed (first ∷ digits) =
    if first == 45 then option_and_then negative (parse_number digits)
    else option_and_then non_negative (parse_number (first ∷ digits))

-- the integer that a text is read as
abbrev pub parse_signed : List ℕ → Option ℤ
parse_signed text = if is_same text (codes "0") then Some (pos 0) else parse_nonzero_signed text

-- a code of an error, if an integer is one
abbrev pub code_in_range : ℤ → Option ℕ
code_in_range (pos code) = if nat_lt code (2 ^ 16) then Some code else None
code_in_range _ = None

-- an `E` (69) and a code
abbrev pub parse_code_kind : List ℕ → Option Kind
parse_code_kind [] = None
parse_code_kind (first ∷ digits) = if first == 69 then option_map Code (option_and_then code_in_range (parse_signed digits)) else None

-- the kind of error that a text is read as
abbrev pub parse_kind : List ℕ → Option Kind
parse_kind text =
    if is_same text (codes "FULL") then Some Full
    else if is_same text (codes "EXCEEDED") then Some Exceeded
    else parse_code_kind text

-- the outcome that a text is read as: a `V` (86) and an integer, or a kind of error
abbrev pub parse_outcome : List ℕ → Option Outcome
parse_outcome [] = None
parse_outcome (first ∷ rest) = if first == 86 then option_map Value (parse_signed rest) else option_map Error (parse_kind (first ∷ rest))

-- ---- Reading is tied to writing.

-- A text is read as a value exactly if it is that value's text, and the value fits its type.
abbrev pub RoundTrips : {A : Type 0} → (List ℕ → Option A) → (A → Type 0) → (A → List ℕ) → Type 0
RoundTrips {A} read Fits text_of = (text : List ℕ) (value : A) → (read text ≡ Some value) ↔ (Fits value × (text ≡ text_of value))

-- an integer of 64 signed bits
abbrev pub FitsValue : ℤ → Type 0
FitsValue value = FitsSigned w64 value

-- a kind whose code, if it has one, is of 16 bits
abbrev pub FitsKind : Kind → Type 0
FitsKind (Code code) = code < 2 ^ 16
FitsKind Full = Unit {0}
FitsKind Exceeded = Unit {0}

-- an outcome whose value or code fits its type
abbrev pub FitsOutcome : Outcome → Type 0
FitsOutcome (Value value) = FitsValue value
FitsOutcome (Error kind) = FitsKind kind
