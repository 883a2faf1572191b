-- Sums of a number over all seats.
use Rattle.std.proofs.Common.{◌≡◌, ◌≤◌, ◌+◌, ℕ, zero, suc, List, [], ◌∷◌, ◌++◌, set, sym, refl, ap, arith}
use mathlib.Core.Option as m
use lib.ListN.{get_elem?}
use Rattle.resil_lock.specs.declared.protocol.View.{View}
use Rattle.resil_lock.specs.Lock.{weigh, total}

module _ {E : Type 0} where
  pub weigh-append : (weight : E → ℕ) (xs ys : List E) → weigh weight (xs ++ ys) ≡ weigh weight xs + weigh weight ys
  weigh-append weight [] ys = omega arith
  weigh-append weight (x ∷ xs) ys = let rest = weigh-append weight xs ys in omega (arith, rest)

module _ {K E : Type 0} (f : View K E → ℕ) where
  -- the number of one seat changes
  pub total-set : (views : List (View K E)) (i : ℕ) (v w : View K E) → get_elem? views i ≡ m.some v → total f (set views i w) + f v ≡ total f views + f w
  total-set [] i v w at = absurd (m.some-ne-none v (sym at))
  total-set (u ∷ views) zero v w at = let same = ap f (m.some-injective u v at) in omega (arith, same)
  total-set (u ∷ views) (suc i) v w at = let rest = total-set views i v w at in omega (arith, rest)

  pub total-more : (views : List (View K E)) (w : View K E) → total f (views ++ w ∷ []) ≡ total f views + f w
  total-more [] w = omega arith
  total-more (u ∷ views) w = let rest = total-more views w in omega (arith, rest)

module _ {K E : Type 0} (f g : View K E → ℕ) where
  pub total-le : (views : List (View K E)) → ((i : ℕ) (v : View K E) → get_elem? views i ≡ m.some v → f v ≤ g v) → total f views ≤ total g views
  total-le [] each = omega arith
  total-le (u ∷ views) each = let here = each 0 u refl in let rest = total-le views (λ i v at. each (suc i) v at) in omega (arith, here, rest)

  -- if one number of each seat is at most its other number, the sums without one seat compare in the same way
  pub total-but : (views : List (View K E)) (i : ℕ) (v : View K E) → get_elem? views i ≡ m.some v
      → ((j : ℕ) (u : View K E) → get_elem? views j ≡ m.some u → f u ≤ g u) → total f views + g v ≤ total g views + f v
  total-but [] i v at each = absurd (m.some-ne-none v (sym at))
  total-but (u ∷ views) zero v at each =
      let same_f = ap f (m.some-injective u v at) in
      let same_g = ap g (m.some-injective u v at) in
      let rest = total-le views (λ j w a. each (suc j) w a) in omega (arith, same_f, same_g, rest)
  total-but (u ∷ views) (suc i) v at each =
      let here = each 0 u refl in
      let rest = total-but views i v at (λ j w a. each (suc j) w a) in omega (arith, here, rest)
