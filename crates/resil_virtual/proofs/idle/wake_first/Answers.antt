use Rattle.resil_virtual.proofs.Words.{◌≡◌, ◌<◌, ◌∷◌, [], ◌++◌, ◌∙◌, ℕ, zero, suc, false, List, Option, None, Some, drop, get_or, is_some, length, slice_set, take, refl, sym, ap, arith, option_map_or, wake_first, woken, Idle}
use Rattle.resil_virtual.proofs.idle.wake_first.Goals as goal

-- the worker at a place is woken, if those before were
set-woken : (look : ℕ) (idle : List Idle) (i : ℕ) (d e x y w : Idle) → i < length idle → x ≡ get_or idle i d → x.look ≡ None → y ≡ get_or idle i e → w ≡ woken look y → slice_set idle i w ≡ take i idle ++ wake_first look (drop i idle)
set-woken look [] i d e x y w within there none here is = absurd (omega (arith, within))
set-woken look (z ∷ idle) zero d e x y w within there none here is = go z.look (ap (λ (u : Idle). u.look) (sym there) ∙ none)
  where
    go : (o : Option ℕ) → o ≡ None → w ∷ idle ≡ option_map_or (λ other. z ∷ wake_first look idle) o (woken look z ∷ idle)
    go None empty = ap (λ (u : Idle). u ∷ idle) (is ∙ ap (woken look) here)
    go (Some time) empty = absurd (cc empty)
set-woken look (z ∷ idle) (suc i) d e x y w within there none here is = ap (λ (xs : List Idle). z ∷ xs) (set-woken look idle i d e x y w (omega (arith, within)) there none here is)

no-look : (o : Option ℕ) → false ≡ is_some o → o ≡ None
no-look None is = refl
no-look (Some x) is = absurd (cc is)

set-woken-now : (look : ℕ) (idle now : List Idle) (i : ℕ) (d e x y w : Idle) → now ≡ idle → i < length idle → x ≡ get_or now i d → x.look ≡ None → y ≡ get_or now i e → w ≡ woken look y → slice_set now i w ≡ take i idle ++ wake_first look (drop i idle)
set-woken-now look idle now i d e x y w same within there none here is =
    ap (λ (xs : List Idle). slice_set xs i w) same ∙ set-woken look idle i d e x y w within (there ∙ ap (λ (xs : List Idle). get_or xs i d) same) none (here ∙ ap (λ (xs : List Idle). get_or xs i e) same) is

pub returns-then-is_none : goal.returns-then-is_none
returns-then-is_none c =
    set-woken-now c.args.look c.args.idle.now.items c.loop-place.idle.items c.loop-place.place _ _ c.index.result.now c.index-then-is_none.result.now c.woken.result c.loop-place.invariant.same
    (omega (arith, c.loop-place-test.true, c.len-place-end.ensures)) c.index.ensures (no-look c.index.result.now.look (sym c.if-is_none.ensures)) c.index-then-is_none.ensures c.woken.ensures ∙ sym c.loop-place.invariant.first
