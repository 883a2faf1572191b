-- Lists that lose an item, or whose items pass a test.
use Rattle.resil_virtual.proofs.Words.{◌≡◌, ◌≤◌, ◌∷◌, [], ◌++◌, ℕ, zero, suc, Bool, true, false, All, List, Some, filter, find, length, map, slice_get, take, refl, subst, arith, All-cons, All-get_or, All-head, All-nil, All-tail, get_or_from_slice_get, slice_get_within, cases_Bool}

module _ {X : Type 0} where
  -- what is true of each item is true of the one at a place
  pub all-at : (P : X → Type 0) (xs : List X) (i : ℕ) (x : X) → slice_get xs i ≡ Some x → All P xs → P x
  all-at P xs i x is all = subst P (get_or_from_slice_get xs i x x is) (All-get_or P xs i x (slice_get_within xs i x is) all)

  -- two truths of each item give a third one
  pub all-two : (P Q R : X → Type 0) → ((x : X) → P x → Q x → R x) → (xs : List X) → All P xs → All Q xs → All R xs
  all-two P Q R both xs ps qs k d within = both _ (ps k d within) (qs k d within)

  -- what is true of two lists together is true of each
  pub all-left : (P : X → Type 0) (xs ys : List X) → All P (xs ++ ys) → All P xs
  all-left P [] ys all = All-nil P
  all-left P (x ∷ xs) ys all = All-cons P x xs (All-head P x (xs ++ ys) all) (all-left P xs ys (All-tail P x (xs ++ ys) all))

  pub all-right : (P : X → Type 0) (xs ys : List X) → All P (xs ++ ys) → All P ys
  all-right P [] ys all = all
  all-right P (x ∷ xs) ys all = all-right P xs ys (All-tail P x (xs ++ ys) all)

  -- how many items pass a test
  pub count-few : (p : X → Bool) (xs : List X) → length (filter p xs) ≤ length xs
  count-few p [] = omega arith
  count-few p (x ∷ xs) = let rest = count-few p xs in grind (arith, rest, cases_Bool (p x))

  -- and how many of the first ones
  pub count-taken : (p : X → Bool) (xs : List X) (n m : ℕ) → n ≤ m → length (filter p (take n xs)) ≤ length (filter p (take m xs))
  count-taken p xs zero m less = omega arith
  count-taken p xs (suc n) zero less = absurd (omega (arith, less))
  count-taken p [] (suc n) (suc m) less = omega arith
  count-taken p (x ∷ xs) (suc n) (suc m) less = let rest = count-taken p xs n m (omega (arith, less)) in grind (arith, rest, cases_Bool (p x))

  -- the first one that passes
  pub find-first : (p : X → Bool) (xs : List X) (i : ℕ) (x : X) → slice_get xs i ≡ Some x → p x ≡ true → All (λ y. p y ≡ false) (take i xs) → find p xs ≡ Some x
  find-first p [] i x is passes before = absurd (cc is)
  find-first p (y ∷ xs) zero x is passes before = let same : y ≡ x = cc is in rw (same, passes) refl
  find-first p (y ∷ xs) (suc i) x is passes before = rw (All-head (λ y. p y ≡ false) y (take i xs) before) (find-first p xs i x is passes (All-tail (λ y. p y ≡ false) y (take i xs) before))

pub all-mapped : {X Y : Type 0} (f : X → Y) (P : Y → Type 0) (xs : List X) → All P (map f xs) → All (λ x. P (f x)) xs
all-mapped f P [] all = All-nil (λ x. P (f x))
all-mapped f P (x ∷ xs) all = All-cons (λ x. P (f x)) x xs (All-head P (f x) (map f xs) all) (all-mapped f P xs (All-tail P (f x) (map f xs) all))
