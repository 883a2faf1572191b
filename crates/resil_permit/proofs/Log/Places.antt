-- The item at an index of a list, and after one item is added.
use Rattle.std.proofs.Common.{◌≡◌, ◌⊎◌, ℕ, zero, suc, ◌<◌, List, [], ◌∷◌, ◌++◌, length, refl, sym, ap, ◌∙◌, inl, inr, ⊎_elim, arith}
use mathlib.Core.Option.{some, some-injective, some-ne-none}
use lib.ListN.{get_elem?}

module _ {A : Type 0} where
  pub place_within : (l : List A) (i : ℕ) (a : A) → get_elem? l i ≡ some a → i < length l
  place_within [] i a e = absurd (some-ne-none a (sym e))
  place_within (x ∷ xs) zero a e = omega arith
  place_within (x ∷ xs) (suc i) a e = let r = place_within xs i a e in omega arith

  pub one_at : (l : List A) (i j : ℕ) (a b : A) → get_elem? l i ≡ some a → get_elem? l j ≡ some b → j ≡ i → a ≡ b
  one_at l i j a b at_i at_j is = some-injective a b (sym at_i ∙ (ap (λ (k : ℕ). get_elem? l k) (sym is) ∙ at_j))

  pub at_end : (l : List A) (a b : A) (j : ℕ) → get_elem? (l ++ a ∷ []) j ≡ some b → (get_elem? l j ≡ some b) ⊎ ((j ≡ length l) × (a ≡ b))
  at_end [] a b zero e = inr (refl, some-injective a b e)
  at_end [] a b (suc j) e = absurd (some-ne-none b (sym e))
  at_end (x ∷ xs) a b zero e = inl e
  at_end (x ∷ xs) a b (suc j) e = ⊎_elim (λ t. inl t) (λ t. inr (ap suc t.0, t.1)) (at_end xs a b j e)
