-- How often an id is in a list, and how often after the first of them is removed.
use Rattle.std.proofs.Common.{◌≡◌, ◌<◌, ◌+◌, ◌==◌, ◌∷◌, ◌∙◌, [], ℕ, List, length, filter, get_or, Some, cond, sym, arith}
use Rattle.std.specs.Prelude.{IsSome}
use Rattle.std.specs.List.{position_from, position_or_len, remove}
use Rattle.std.proofs.lemmas.Bool.{eqb-true, ltb-true, ne_eqb}
use Rattle.std.proofs.lemmas.Iterator.Adapters.{position_from-zero}
use Rattle.std.proofs.lemmas.List.Sums.{length-filter, passes_at_first, sum_by-remove}
use Rattle.std.proofs.lemmas.Option.{cond_some}
use Rattle.resil_decor.specs.Permitter.{IsGivenBack}

-- how often an id is in a list
abbrev count : List ℕ → ℕ → ℕ
count xs id = length (filter (λ other. other == id) xs)

pub some_found : (id start : ℕ) (xs : List ℕ) → 0 < count xs id → IsSome (position_from (λ other. other == id) start xs)
some_found id start [] some = absurd (omega (arith, some))
some_found id start (x ∷ xs) some = grind (arith, some_found id (start + 1) xs, some)

-- the first such id is in the list, and without it there is one fewer
pub first_removed : (id : ℕ) (xs : List ℕ) (i : ℕ) → position_from (λ other. other == id) 0 xs ≡ Some i
    → (i < length xs) × IsGivenBack (count xs) id (count (remove xs i))
first_removed id xs i found =
    let parts = cond_some _ _ i (position_from-zero (λ other. other == id) xs ∙ found) in
    let inside = ltb-true _ (length xs) parts.0 in
    let first = position_or_len (λ x. x == id) xs in
    let passes = passes_at_first (λ x. x == id) xs 0 inside in
    let counted : (other : ℕ) → count (remove xs first) other + cond (get_or xs first 0 == other) 1 0 ≡ count xs other =
    λ other. rw (length-filter (λ x. x == other) xs, length-filter (λ x. x == other) (remove xs first))
    (sum_by-remove (λ x. cond (x == other) 1 0) xs first 0 inside) in
    rw (← parts.1) (
      inside,
      record {
        one_fewer = sym (rw passes at (counted id));
        others = λ other apart.
            let same = rw (ne_eqb (get_or xs first 0) other (λ e. apart (sym e ∙ eqb-true (get_or xs first 0) id passes))) at (counted other) in
            omega (arith, same);
      },
    )
