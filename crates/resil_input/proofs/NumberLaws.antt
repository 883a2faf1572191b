-- Numbers, their decimal texts, and what `parse` makes of them.
use lib.Pointwise.{bytes_decides}
use Rattle.std.proofs.Common.{◌≡◌, ◌≢◌, ◌<◌, ◌≤◌, ◌^◌, ◌==◌, ◌∷◌, ◌∙◌, ℕ, List, [], Some, None, Result, Ok, Err, Bor, true, false, not, length, get_or, refl, sym, ap, arith, MatchResult, inl, inr, zero, suc}
use Rattle.std.proofs.lemmas.Bool.{and_parts, cases_Bool, eqb-false, false_from_ne_true, ne_eqb, not-true}
use Rattle.std.proofs.lemmas.Grind.{common_steps}
use Rattle.std.proofs.lemmas.Str.{IsUtf8-from_ascii}
use Rattle.std.proofs.lemmas.Str.Parse.{IsNumeralModel, numerals_by_value, tells_all_ascii_digits, parse_plain}
use Rattle.std.proofs.lemmas.Fmt.{IsAscii-from_digits, decimal-digits_value, digits_decimal, digits_value-decimal, first_decimal, decimal_nonempty, decimal_digit}
use Rattle.std.specs.Prelude.{nat_lt}
use Rattle.std.specs.Fmt.{decimal}
use Rattle.std.specs.Result.{OkIff, result_ok}
use Rattle.std.specs.Str.{IsUtf8, all_ascii_digits}
use Rattle.std.specs.Str.Parse.{ParsesUnsigned, digits_value}
use Rattle.resil_input.specs.Number.{is_numeral, parse_from_zero, parse_number_below, parse_number, NumbersRoundTrip, NumbersAreDecimal}
use Rattle.resil_input.specs.TextEquality.{is_same}

own : IsNumeralModel (λ ds. all_ascii_digits ds ≡ true) (digits_value 10)
own = numerals_by_value _ tells_all_ascii_digits

-- what a failed and what a successful check of a text says of its bytes
pub text-refused : {T E : Type 0} (r : Result T E) (P : T → Type 0) (A : Type 0) (V : E → Type 0) → MatchResult r P (λ e. (A → ⊥) × V e) → result_ok r ≡ None → A → ⊥
text-refused (Ok x) P A V h e = cc e
text-refused (Err x) P A V h e = h.0

pub text-taken : {E : Type 0} (r : Result (Bor (List ℕ)) E) (bytes : List ℕ) (A : Type 0) (Q : E → Type 0) (text : Bor (List ℕ)) → MatchResult r (λ s. (s.now ≡ bytes) × A) Q → result_ok r ≡ Some text → text.now ≡ bytes
text-taken (Ok x) bytes A Q text h e = let same : x ≡ text = cc e in rw (← same) h.0
text-taken (Err x) bytes A Q text h e = cc e

-- digits with a first one that isn't 0
is_numeral-first : (field : List ℕ) → 0 < length field → get_or field 0 0 ≢ 48 → is_numeral field ≡ all_ascii_digits field
is_numeral-first [] some first = absurd (omega arith)
is_numeral-first (digit ∷ digits) some first = let no : (digit == 48) ≡ false = grind (arith, common_steps) in rw no refl

-- bytes that are no text are read as no number
pub parse_number-no_text : (field : List ℕ) → (IsUtf8 field → ⊥) → 49 ≤ get_or field 0 0 → 0 < length field → None ≡ parse_number field
parse_number-no_text field no_text first some =
    let not_zero : get_or field 0 0 ≢ 48 = λ e. omega arith in
    let other = false_from_ne_true (all_ascii_digits field) (λ digits. no_text (IsUtf8-from_ascii field (IsAscii-from_digits field (own.to field digits)))) in
    rw (is_numeral-first field some not_zero, other) refl

-- what `parse` makes of a text whose first digit isn't 0
parsed : (field : List ℕ) {E : Type 0} (r : Result ℕ E) → is_numeral field ≡ all_ascii_digits field → 0 < length field
    → OkIff r ((all_ascii_digits field ≡ true) × (0 < length field) × (digits_value 10 field < 2 ^ 64)) (digits_value 10 field) → result_ok r ≡ parse_number field
parsed field (Ok n) e some h =
    let small : nat_lt (digits_value 10 field) (2 ^ 64) ≡ true = grind (arith, common_steps, h.0.2) in
    rw (e, h.0.0, small) (ap Some h.1)
parsed field (Err x) e some h =
    elim (cases_Bool (all_ascii_digits field)) [
      | inl digits ↦
          elim (cases_Bool (nat_lt (digits_value 10 field) (2 ^ 64))) [
            | inl small ↦ absurd (h (digits, some, grind (arith, common_steps)))
            | inr large ↦ rw (e, digits, large) refl
          ]
      | inr other ↦ rw (e, other) refl
    ]

pub parse_number-parse : (field text : List ℕ) {E : Type 0} (r : Result ℕ E) → text ≡ field → ParsesUnsigned 64 10 text r → 49 ≤ get_or field 0 0 → get_or field 0 0 ≤ 57 → 0 < length field → result_ok r ≡ parse_number field
parse_number-parse field text r same parses low high some =
    let not_zero : get_or field 0 0 ≢ 48 = λ e. omega arith in
    let no_plus : get_or field 0 0 ≢ 43 = λ e. omega arith in
    parsed field r (is_numeral-first field some not_zero) some (parse_plain own 64 field r (rw same at parses) no_plus)

-- what a numeral is made of
is_numeral-parts : (field : List ℕ) → is_numeral field ≡ true → (0 < length field) × (get_or field 0 0 ≢ 48) × (all_ascii_digits field ≡ true)
is_numeral-parts [] e = cc e
is_numeral-parts (digit ∷ digits) e =
    let (first, all) = and_parts (not (digit == 48)) (all_ascii_digits (digit ∷ digits)) e in
    (omega arith, eqb-false digit 48 (not-true _ first), all)

-- a number is read from its decimal text, below each bound that is above it
pub below-round_trip : (bound n : ℕ) → 1 ≤ n → n < 2 ^ 64 → n < bound → parse_number_below bound (decimal n) ≡ Some n
below-round_trip bound n positive small below =
    let some = decimal_nonempty n small in
    let first = first_decimal n positive small in
    let not_zero : get_or (decimal n) 0 0 ≢ 48 = λ e. omega arith in
    let numeral : is_numeral (decimal n) ≡ true = is_numeral-first (decimal n) some not_zero ∙ digits_decimal own n small in
    let fits : nat_lt n bound ≡ true = grind (arith, common_steps) in
    rw (numeral, digits_value-decimal own n small, fits) refl

pub numbers-round_trip : NumbersRoundTrip
numbers-round_trip n positive small = below-round_trip (2 ^ 64) n positive small small

-- a number whose text doesn't begin with a 0 is at least 1
decimal-positive : (n : ℕ) → get_or (decimal n) 0 0 ≢ 48 → 1 ≤ n
decimal-positive zero first = absurd (first (rw (decimal_digit 0 (omega arith)) refl))
decimal-positive (suc n) first = omega arith

-- what is read below a bound is the decimal text of a number from 1 on, below the bound
pub below-are_decimal : (bound : ℕ) (field : List ℕ) (n : ℕ) → bound ≤ 2 ^ 64 → parse_number_below bound field ≡ Some n → (field ≡ decimal n) × (1 ≤ n) × (n < bound)
below-are_decimal bound field n fits e =
    elim (cases_Bool (is_numeral field)) [
      | inl numeral ↦
          elim (cases_Bool (nat_lt (digits_value 10 field) bound)) [
            | inl below ↦
                let parts = is_numeral-parts field numeral in
                let value : digits_value 10 field ≡ n = cc (rw (numeral, below) at e) in
                let lower : digits_value 10 field < bound = grind (arith, common_steps) in
                let small : digits_value 10 field < 2 ^ 64 = omega arith in
                let text : decimal n ≡ field = rw value at (decimal-digits_value own field parts.2 parts.0 (λ zero_first. absurd (parts.1 zero_first)) small) in
                (sym text, decimal-positive n (rw text parts.1), omega arith)
            | inr above ↦ cc (rw (numeral, above) at e)
          ]
      | inr other ↦ cc (rw other at e)
    ]

pub numbers-are_decimal : NumbersAreDecimal
numbers-are_decimal field n e = below-are_decimal (2 ^ 64) field n (omega arith) e

-- a text that begins with another byte is another text
pub other-first : (text rest : List ℕ) (byte d : ℕ) → get_or text 0 d ≢ byte → is_same text (byte ∷ rest) ≡ false
other-first [] rest byte d other = refl
other-first (x ∷ xs) rest byte d other = rw (ne_eqb x byte other) refl

-- 0, or a number below a bound
pub from_zero-round_trip : (bound n : ℕ) → bound ≤ 2 ^ 64 → n < bound → parse_from_zero bound (decimal n) ≡ Some n
from_zero-round_trip bound zero fits below = rw (decimal_digit 0 (omega arith)) refl
from_zero-round_trip bound (suc n) fits below =
    let first = first_decimal (suc n) (omega arith) (omega arith) in
    rw (other-first (decimal (suc n)) [] 48 0 (λ e. omega arith)) (below-round_trip bound (suc n) (omega arith) (omega arith) below)

pub from_zero-are_decimal : (bound : ℕ) (field : List ℕ) (n : ℕ) → 0 < bound → bound ≤ 2 ^ 64 → parse_from_zero bound field ≡ Some n → (field ≡ decimal n) × (n < bound)
from_zero-are_decimal bound field n some fits e =
    elim (cases_Bool (is_same field (48 ∷ []))) [
      | inl is ↦
          let none : 0 ≡ n = cc (rw is at e) in
          ((bytes_decides field (48 ∷ [])).0 is ∙ sym (decimal_digit 0 (omega arith)) ∙ ap decimal none, omega arith)
      | inr other ↦ let number = below-are_decimal bound field n fits (rw other at e) in (number.0, number.2)
    ]
