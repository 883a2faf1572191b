-- The records of a text, one after the other, as `csv` takes them from it.
use Rattle.std.proofs.Common.{◌≡◌, ◌<◌, ◌≤◌, ◌∷◌, ◌++◌, ℕ, zero, suc, List, [], Option, Some, None, true, false, length, refl, ap, arith, inl, inr, ◌-◌}
use Rattle.std.proofs.lemmas.Bool.{cases_Bool}
use Rattle.std.proofs.lemmas.Grind.{common_steps}
use Rattle.csv.specs.Machine.{Read, ends_at_end, fields_after, is_end, next_record, step}
use Rattle.csv.specs.Reading.{default_config, records_from}
use Rattle.csv.specs.declared.parser.State.{State}
use Rattle.csv.specs.declared.parser.State.TheVariants as st

-- a step that ends a record leaves a state between two records
step-between : (s : State) (c : ℕ) → is_end (step default_config s c).1 ≡ true → ends_at_end (step default_config s c).0 ≡ false
step-between st.InEscape c ends = cc
step-between s c ends = grind (arith, common_steps)

-- what a record leaves of a text: a shorter one, if there is a shorter, in a state between two records
leaves : (xs : List ℕ) (s : State) (fields : List (List ℕ)) (field : List ℕ) (p : Read) → next_record default_config s fields field xs ≡ Some p → (length p.2 ≤ length xs - 1) × (ends_at_end p.1 ≡ false)
unfolding next_record
leaves [] s fields field p e =
    elim (cases_Bool (ends_at_end s)) [
      | inl ends ↦ let same : ◌≡◌ {A = Read} (fields ++ (field ∷ []), st.StartRecord, []) p = cc (rw ends at e) in rw (← same) (omega arith, refl)
      | inr between ↦ cc (rw between at e)
    ]
leaves (c ∷ rest) s fields field p e =
    elim (cases_Bool (is_end (step default_config s c).1)) [
      | inl ends ↦
          let same : ◌≡◌ {A = Read} (fields_after (step default_config s c).1 fields field, (step default_config s c).0, rest) p = cc (rw ends at e) in
          rw (← same) (omega arith, step-between s c ends)
      | inr further ↦ let left = leaves rest _ _ _ p (rw further at e) in (omega (arith, left.0), left.1)
    ]

-- between two records, a record takes a byte at least
next-shorter : (s : State) (xs : List ℕ) (p : Read) → ends_at_end s ≡ false → next_record default_config s [] [] xs ≡ Some p → (length p.2 < length xs) × (ends_at_end p.1 ≡ false)
unfolding next_record
next-shorter s [] p between e = cc (rw between at e)
next-shorter s (c ∷ rest) p between e = let left = leaves (c ∷ rest) s [] [] p e in (omega (arith, left.0), left.1)

-- as many turns as bytes, and one more, are enough for all records
pub records_from-turns : (n m : ℕ) (s : State) (xs : List ℕ) → ends_at_end s ≡ false → length xs < n → length xs < m → records_from default_config n s xs ≡ records_from default_config m s xs
unfolding records_from
records_from-turns zero m s xs between a b = absurd (omega arith)
records_from-turns (suc n) zero s xs between a b = absurd (omega arith)
records_from-turns (suc n) (suc m) s xs between a b =
    by (next_record default_config s [] [] xs) refl (λ p left. records_from-turns n m p.1 p.2 left.1 (omega arith) (omega arith))
  where
    by : (o : Option Read) → next_record default_config s [] [] xs ≡ o
        → ((p : Read) → (length p.2 < length xs) × (ends_at_end p.1 ≡ false) → records_from default_config n p.1 p.2 ≡ records_from default_config m p.1 p.2)
        → records_from default_config (suc n) s xs ≡ records_from default_config (suc m) s xs
    by None e more = rw e refl
    by (Some p) e more = rw e (ap (λ (t : List (List (List ℕ))). p.0 ∷ t) (more p (next-shorter s xs p between e)))

-- the first of the records, and those after it
pub records_from-next : (s s2 : State) (xs ys : List ℕ) (fields : List (List ℕ)) → ends_at_end s ≡ false → next_record default_config s [] [] xs ≡ Some (fields, s2, ys)
    → (records_from default_config (suc (length xs)) s xs ≡ fields ∷ records_from default_config (suc (length ys)) s2 ys) × (ends_at_end s2 ≡ false)
unfolding records_from
records_from-next s s2 xs ys fields between e =
    let left = next-shorter s xs (fields, s2, ys) between e in
    (rw e (ap (λ (t : List (List (List ℕ))). fields ∷ t) (records_from-turns (length xs) (suc (length ys)) s2 ys left.1 left.0 (omega arith))), left.1)

pub records_from-end : (n : ℕ) (s : State) (xs : List ℕ) → next_record default_config s [] [] xs ≡ None → records_from default_config (suc n) s xs ≡ []
unfolding records_from
records_from-end n s xs e = rw e refl
