-- Which fields need no quotes.
use Rattle.std.proofs.Common.{◌≡◌, ◌<◌, ◌+◌, ◌/◌, ◌%◌, ◌==◌, ◌∷◌, ◌++◌, ℕ, zero, suc, pos, negsuc, List, [], true, false, refl, arith, inl, inr}
use Rattle.std.proofs.lemmas.Bool.{cases_Bool}
use Rattle.std.proofs.lemmas.Grind.{common_steps}
use Rattle.std.specs.Prelude.{nat_lt}
use Rattle.std.specs.Fmt.{decimal, digits, digits_onto, digit_glyph}
use Rattle.csv.specs.Writing.{default_writer, needs_byte}
use Rattle.resil_retry.specs.declared.outcome.Kind.TheVariants.{Code}
use Rattle.resil_retry.specs.declared.outcome.Outcome.{Outcome}
use Rattle.resil_retry.specs.declared.outcome.Outcome.TheVariants.{Value, Error}
use Rattle.resil_input.specs.OutcomeText.{outcome_text}
use Rattle.resil_input.specs.CsvTable.{IsPlain}
use Rattle.resil_input.proofs.TableLaws.{needs_byte-digit}

pub IsPlain-append : (front back : List ℕ) → IsPlain front → IsPlain back → IsPlain (front ++ back)
IsPlain-append [] back plain plain' = plain'
IsPlain-append (x ∷ front) back plain plain' =
    elim (cases_Bool (needs_byte default_writer x)) [
      | inl quoted ↦ cc (rw quoted at plain)
      | inr bare ↦ rw bare (IsPlain-append front back (rw bare at plain) plain')
    ]

-- digits need no quotes
plain-digits_onto : (k n : ℕ) (text : List ℕ) → IsPlain text → IsPlain (digits_onto k 10 false n text)
plain-digits_onto zero n text plain = plain
plain-digits_onto (suc k) n text plain =
    let below : n % 10 < 10 = omega arith in
    let glyph : nat_lt (n % 10) 10 ≡ true = grind (arith, common_steps) in
    let bare = needs_byte-digit (48 + n % 10) (omega arith) in
    let more : IsPlain (digit_glyph false (n % 10) ∷ text) = rw (glyph, bare) plain in
    elim (cases_Bool (n / 10 == 0)) [
      | inl last ↦ rw last more
      | inr further ↦ rw further (plain-digits_onto k (n / 10) (digit_glyph false (n % 10) ∷ text) more)
    ]

pub IsPlain_number : (n : ℕ) → IsPlain (decimal n)
unfolding digits
IsPlain_number n = plain-digits_onto 64 n [] refl

pub IsPlain-outcome_text : (outcome : Outcome) → IsPlain (outcome_text outcome)
IsPlain-outcome_text (Value (pos n)) = IsPlain_number n
IsPlain-outcome_text (Value (negsuc n)) = IsPlain_number (suc n)
IsPlain-outcome_text (Error (Code code)) = IsPlain_number code
IsPlain-outcome_text (Error kind) = refl
