-- Items of lists by their index, with one more item.
use Rattle.std.proofs.Common.{◌≡◌, ◌<◌, ◌⊎◌, inl, inr, ◌∷◌, [], ◌++◌, ◌∙◌, ℕ, Bool, true, false, not, List, Some, get_or, length, slice_get, ap, sym, arith}
use Rattle.std.specs.List.{position_or_len}
use Rattle.std.proofs.lemmas.Grind.{common_steps}
use Rattle.std.proofs.lemmas.List.Sums.{fails_before_first, passes_at_first, prefix_len-le-length}
use Rattle.std.proofs.lemmas.Option.{get_or_from_slice_get, gets, slice_get-get_or, slice_get_within}

module _ {A : Type 0} where
  pub last-is : (xs : List A) (y : A) → slice_get (xs ++ y ∷ []) (length xs) ≡ Some y
  last-is xs y = grind (arith, common_steps, gets)

  pub get-kept : (xs : List A) (y x : A) (n : ℕ) → slice_get xs n ≡ Some x → slice_get (xs ++ y ∷ []) n ≡ Some x
  get-kept xs y x n h = grind (arith, common_steps, gets)

  pub get-more : (xs : List A) (y x : A) (n : ℕ) → slice_get (xs ++ y ∷ []) n ≡ Some x → (slice_get xs n ≡ Some x) ⊎ ((n ≡ length xs) × (y ≡ x))
  get-more xs y x n h = grind (arith, common_steps, gets)

  -- what holds of each item, and of one more
  pub each-more : (P : ℕ → A → Type 0) (xs : List A) (y : A) → ((n : ℕ) (x : A) → slice_get xs n ≡ Some x → P n x) → P (length xs) y → (n : ℕ) (x : A) → slice_get (xs ++ y ∷ []) n ≡ Some x → P n x
  each-more P xs y old new n x at = elim (get-more xs y x n at) [ inl was ↦ old n x was | inr last ↦ rw (last.0, sym last.1) new ]

  -- the first item that passes a test passes it, and each one before it doesn't
  module _ (p : A → Bool) where
    pub position-passes : (xs : List A) (x : A) → slice_get xs (position_or_len p xs) ≡ Some x → p x ≡ true
    position-passes xs x here = ap p (sym (get_or_from_slice_get xs _ x x here)) ∙ passes_at_first p xs x (slice_get_within xs _ x here)

    pub position-before : (xs : List A) (n : ℕ) (d : A) → n < position_or_len p xs → (slice_get xs n ≡ Some (get_or xs n d)) × (p (get_or xs n d) ≡ false)
    position-before xs n d lt =
        let few = prefix_len-le-length (λ x. not (p x)) xs in
        (slice_get-get_or xs n d (omega (arith, lt, few)), fails_before_first p xs n d lt)
