use Rattle.resil_virtual.proofs.Words.{◌≡◌, ◌<◌, ◌+◌, ◌∷◌, [], ◌++◌, ◌∙◌, ℕ, zero, suc, List, drop, get_or, length, map, slice_set, take, refl, ap, arith, passed}
use Rattle.resil_virtual.proofs.idle.pass.Goals as goal

-- some items are passed, one after another
module _ {X : Type 0} (f : X → X) where
  read-rest : (xs : List X) (i : ℕ) (d : X) → i < length xs → get_or (map f (take i xs) ++ drop i xs) i d ≡ get_or xs i d
  read-rest [] i d within = absurd (omega (arith, within))
  read-rest (x ∷ xs) zero d within = refl
  read-rest (x ∷ xs) (suc i) d within = read-rest xs i d (omega (arith, within))

  map-next : (xs : List X) (i : ℕ) (d : X) → i < length xs → slice_set (map f (take i xs) ++ drop i xs) i (f (get_or xs i d)) ≡ map f (take (suc i) xs) ++ drop (suc i) xs
  map-next [] i d within = absurd (omega (arith, within))
  map-next (x ∷ xs) zero d within = refl
  map-next (x ∷ xs) (suc i) d within = ap (λ (ys : List X). f x ∷ ys) (map-next xs i d (omega (arith, within)))

  map-more : (xs now : List X) (i : ℕ) (d y : X) → now ≡ map f (take i xs) ++ drop i xs → i < length xs → y ≡ f (get_or now i d) → slice_set now i y ≡ map f (take (i + 1) xs) ++ drop (i + 1) xs
  map-more xs now i d y is within here =
      let last : suc i ≡ i + 1 = omega arith in
      let read = here ∙ ap f (ap (λ (ys : List X). get_or ys i d) is ∙ read-rest xs i d within) in
      ap (λ (ys : List X). slice_set ys i y) is ∙ ap (λ (z : X). slice_set (map f (take i xs) ++ drop i xs) i z) read ∙ map-next xs i d within ∙ ap (λ n. map f (take n xs) ++ drop n xs) last

pub loop-place-preserved : goal.loop-place-preserved
loop-place-preserved c =
    map-more (passed c.args.none_waits c.args.at) c.args.idle.now.items c.loop-place.idle.items c.loop-place.place c.index.result.now c.passed.result c.loop-place.invariant
    (omega (arith, c.loop-place-test.true, c.len-place-end.ensures)) (c.passed.ensures ∙ ap (passed c.args.none_waits c.args.at) c.index.ensures)
