-- The texts of signed integers, of kinds of error and of outcomes, and what they are read as.
use lib.Pointwise.{bytes_decides}
use Rattle.std.proofs.Common.{◌≡◌, ◌≢◌, ◌<◌, ◌≤◌, ◌^◌, ◌==◌, ◌∷◌, ◌∙◌, ℕ, zero, suc, ℤ, pos, negsuc, List, [], Option, Some, None, true, get_or, codes, refl, sym, arith, inl, inr}
use Rattle.std.proofs.lemmas.Bool.{cases_Bool, eqb-true, ne_eqb}
use Rattle.std.proofs.lemmas.Fmt.{decimal_digit, decimal_is_IsNumeral, decimal_nonempty, first_decimal}
use Rattle.std.proofs.lemmas.Grind.{common_steps}
use Rattle.std.proofs.lemmas.Option.{option_and_then_some, cond_some}
use Rattle.std.proofs.lemmas.List.{get_or_default}
use Rattle.std.proofs.lemmas.Str.Parse.{digit_at}
use Rattle.std.specs.Str.Parse.{AllDigits}
use Rattle.std.specs.Prelude.{nat_lt, nat_le, option_map, option_and_then}
use Rattle.std.specs.Fmt.{decimal, signed_decimal}
use Rattle.resil_retry.specs.declared.outcome.Kind.{Kind}
use Rattle.resil_retry.specs.declared.outcome.Kind.TheVariants.{Code, Full, Exceeded}
use Rattle.resil_retry.specs.declared.outcome.Outcome.{Outcome}
use Rattle.resil_retry.specs.declared.outcome.Outcome.TheVariants.{Value, Error}
use Rattle.resil_input.specs.Number.{parse_number}
use Rattle.resil_input.specs.OutcomeText.{RoundTrips, FitsValue, FitsKind, FitsOutcome, negative, non_negative, code_in_range, parse_code_kind, parse_kind, kind_text, parse_outcome, outcome_text, parse_nonzero_signed, parse_signed}
use Rattle.resil_input.specs.TextEquality.{is_same}
use Rattle.resil_input.proofs.NumberLaws.{numbers-round_trip, numbers-are_decimal, other-first}

-- the value that a mapped one came from
pub option_map-some : {A B P : Type 0} (f : A → B) (o : Option A) (y : B) → option_map f o ≡ Some y → ((x : A) → o ≡ Some x → f x ≡ y → P) → P
option_map-some f None y e more = cc e
option_map-some f (Some x) y e more = more x refl (cc e)

-- the first byte of a number's text is a digit
first-digit : (n d : ℕ) → n < 2 ^ 64 → (47 < get_or (decimal n) 0 d) × (get_or (decimal n) 0 d < 58)
first-digit n d small =
    let some = decimal_nonempty n small in
    let digits : AllDigits 10 (decimal n) = (decimal_is_IsNumeral n small).0.1 in
    let range = digit_at (decimal n) 0 digits some in
    let same = get_or_default (decimal n) 0 d 0 some in
    omega arith

-- ---- Signed integers.

-- a text that begins with no minus
parse_nonzero_signed-plain : (text : List ℕ) → get_or text 0 0 ≢ 45 → parse_nonzero_signed text ≡ option_and_then non_negative (parse_number text)
parse_nonzero_signed-plain [] first = refl
parse_nonzero_signed-plain (x ∷ xs) first = rw (ne_eqb x 45 first) refl

negative-is : (size : ℕ) (value : ℤ) → 1 ≤ size → negative size ≡ Some value → FitsValue value × (45 ∷ decimal size ≡ signed_decimal value)
negative-is zero value positive e = absurd (omega arith)
negative-is (suc n) value positive e =
    let (fits, is) = cond_some (nat_le (suc n) (2 ^ 63)) (negsuc n) value e in
    rw (← is) (record { sfits = grind (arith, common_steps, fits) }, refl)

non_negative-is : (size : ℕ) (value : ℤ) → non_negative size ≡ Some value → FitsValue value × (decimal size ≡ signed_decimal value)
non_negative-is size value e =
    let (fits, is) = cond_some (nat_lt size (2 ^ 63)) (pos size) value e in
    rw (← is) (record { sfits = grind (arith, common_steps, fits) }, refl)

parse_nonzero_signed-is : (text : List ℕ) (value : ℤ) → parse_nonzero_signed text ≡ Some value → FitsValue value × (text ≡ signed_decimal value)
parse_nonzero_signed-is [] value e = cc e
parse_nonzero_signed-is (first ∷ digits) value e =
    elim (cases_Bool (first == 45)) [
      | inl minus ↦
          option_and_then_some negative (parse_number digits) value (rw minus at e) (λ size named made. (
          let number = numbers-are_decimal digits size named in
          let is = negative-is size value number.1 made in
          (is.0, rw (eqb-true first 45 minus, number.0) is.1)))
      | inr plain ↦
          option_and_then_some non_negative (parse_number (first ∷ digits)) value (rw plain at e) (λ size named made. (
          let number = numbers-are_decimal (first ∷ digits) size named in
          let is = non_negative-is size value made in
          (is.0, number.0 ∙ is.1)))
    ]

signed-is : (text : List ℕ) (value : ℤ) → parse_signed text ≡ Some value → FitsValue value × (text ≡ signed_decimal value)
signed-is text value e =
    elim (cases_Bool (is_same text (48 ∷ []))) [
      | inl none ↦
          let same : pos 0 ≡ value = cc (rw none at e) in
          rw (← same) (record { sfits = omega arith }, (bytes_decides text (48 ∷ [])).0 none ∙ sym (decimal_digit 0 (omega arith)))
      | inr other ↦ parse_nonzero_signed-is text value (rw other at e)
    ]

signed-read : (value : ℤ) → FitsValue value → parse_signed (signed_decimal value) ≡ Some value
signed-read (pos zero) fits = rw (decimal_digit 0 (omega arith)) refl
signed-read (pos (suc n)) fits =
    let small : suc n < 2 ^ 63 = fits.sfits in
    let first = first_decimal (suc n) (omega arith) (omega arith) in
    let digit = first-digit (suc n) 0 (omega arith) in
    let other = other-first (decimal (suc n)) [] 48 0 (λ e. omega arith) in
    let plain = parse_nonzero_signed-plain (decimal (suc n)) (λ e. omega arith) in
    let fit : nat_lt (suc n) (2 ^ 63) ≡ true = grind (arith, common_steps) in
    rw (other, plain, numbers-round_trip (suc n) (omega arith) (omega arith), fit) refl
signed-read (negsuc n) fits =
    let small : n < 2 ^ 63 = fits.sfits in
    let fit : nat_le (suc n) (2 ^ 63) ≡ true = grind (arith, common_steps) in
    rw (numbers-round_trip (suc n) (omega arith) (omega arith), fit) refl

pub signed-reads : RoundTrips parse_signed FitsValue signed_decimal
signed-reads text value = (signed-is text value, (λ written. rw (written.1) (signed-read value written.0)))

-- ---- Kinds of error.

code-is : (integer : ℤ) (code : ℕ) → code_in_range integer ≡ Some code → (code < 2 ^ 16) × (signed_decimal integer ≡ decimal code)
code-is (pos n) code e =
    let (fits, is) = cond_some (nat_lt n (2 ^ 16)) n code e in
    rw (← is) (grind (arith, common_steps, fits), refl)
code-is (negsuc n) code e = cc e

parse_code_kind-is : (text : List ℕ) (kind : Kind) → parse_code_kind text ≡ Some kind → FitsKind kind × (text ≡ kind_text kind)
parse_code_kind-is [] kind e = cc e
parse_code_kind-is (first ∷ digits) kind e =
    elim (cases_Bool (first == 69)) [
      | inl letter ↦
          option_map-some Code (option_and_then code_in_range (parse_signed digits)) kind (rw letter at e) (λ code coded same.
          option_and_then_some code_in_range (parse_signed digits) code coded (λ integer named made. (
          let signed = signed-is digits integer named in
          let is = code-is integer code made in
          rw (← same) (is.0, rw (eqb-true first 69 letter, signed.1, is.1) refl))))
      | inr other ↦ cc (rw other at e)
    ]

kind-is : (text : List ℕ) (kind : Kind) → parse_kind text ≡ Some kind → FitsKind kind × (text ≡ kind_text kind)
kind-is text kind e =
    elim (cases_Bool (is_same text (codes "FULL"))) [
      | inl full ↦
          let same : Full ≡ kind = cc (rw full at e) in
          rw (← same) (tt, (bytes_decides text (codes "FULL")).0 full)
      | inr not_full ↦
          elim (cases_Bool (is_same text (codes "EXCEEDED"))) [
            | inl exceeded ↦
                let same : Exceeded ≡ kind = cc (rw (not_full, exceeded) at e) in
                rw (← same) (tt, (bytes_decides text (codes "EXCEEDED")).0 exceeded)
            | inr not_exceeded ↦ parse_code_kind-is text kind (rw (not_full, not_exceeded) at e)
          ]
    ]

kind-read : (kind : Kind) → FitsKind kind → parse_kind (kind_text kind) ≡ Some kind
kind-read (Code code) small =
    let digit = first-digit code 0 (omega arith) in
    let other = other-first (decimal code) (codes "CEEDED") 88 0 (λ e. omega arith) in
    let signed = signed-read (pos code) (record { sfits = omega arith }) in
    let fit : nat_lt code (2 ^ 16) ≡ true = grind (arith, common_steps) in
    rw (other, signed, fit) refl
kind-read kind fits = refl

pub kinds-read : RoundTrips parse_kind FitsKind kind_text
kinds-read text kind = (kind-is text kind, (λ written. rw (written.1) (kind-read kind written.0)))

-- ---- Outcomes.

outcome-is : (text : List ℕ) (outcome : Outcome) → parse_outcome text ≡ Some outcome → FitsOutcome outcome × (text ≡ outcome_text outcome)
outcome-is [] outcome e = cc e
outcome-is (first ∷ rest) outcome e =
    elim (cases_Bool (first == 86)) [
      | inl letter ↦
          option_map-some Value (parse_signed rest) outcome (rw letter at e) (λ value named same. (
          let is = signed-is rest value named in
          rw (← same) (is.0, rw (eqb-true first 86 letter, is.1) refl)))
      | inr other ↦
          option_map-some Error (parse_kind (first ∷ rest)) outcome (rw other at e) (λ kind named same. (
          let is = kind-is (first ∷ rest) kind named in
          rw (← same) is))
    ]

outcome-read : (outcome : Outcome) → FitsOutcome outcome → parse_outcome (outcome_text outcome) ≡ Some outcome
outcome-read (Value value) fits = rw (signed-read value fits) refl
outcome-read (Error (Code code)) fits = rw (kind-read (Code code) fits) refl
outcome-read (Error kind) fits = refl

pub outcomes-read : RoundTrips parse_outcome FitsOutcome outcome_text
outcomes-read text outcome = (outcome-is text outcome, (λ written. rw (written.1) (outcome-read outcome written.0)))
