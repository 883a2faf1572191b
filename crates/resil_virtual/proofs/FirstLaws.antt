-- The first of what is due.
use Rattle.resil_virtual.proofs.Words.{inl, inr, ◌⊎◌, ◌≡◌, ◌≤◌, ◌<◌, ◌+◌, ◌∷◌, [], ◌++◌, ◌∙◌, ℕ, true, false, All, List, Option, Some, None, get_or, length, map, nat_lt, option_map, take, refl, sym, ap, subst, arith, cons_option, filter_map, IfSome, take_more, common_steps, All-cons, All-head, All-nil, All-tail, All-weaker, filter_map-append, earliest, sooner}

-- a number is below another one, or it isn't
pub lt-cases : (n m : ℕ) → ((nat_lt n m ≡ true) × (n < m)) ⊎ ((nat_lt n m ≡ false) × (m ≤ n))
lt-cases n m = grind (arith, common_steps)

module _ {X : Type 0} (at : X → ℕ) where
  some-sooner : (x y : X) → ((at y < at x) × (sooner at (Some x) (Some y) ≡ Some y)) ⊎ ((at x ≤ at y) × (sooner at (Some x) (Some y) ≡ Some x))
  some-sooner x y = elim (lt-cases (at y) (at x)) [ inl is ↦ inl (is.1, rw is.0 refl) | inr is ↦ inr (is.1, rw is.0 refl) ]

  pub sooner-one : (a b : Option X) (t : X) → sooner at a b ≡ Some t → (a ≡ Some t) ⊎ (b ≡ Some t)
  sooner-one None b t is = inr is
  sooner-one (Some x) None t is = inl is
  sooner-one (Some x) (Some y) t is = elim (some-sooner x y) [ inl yx ↦ inr (sym yx.1 ∙ is) | inr xy ↦ inl (sym xy.1 ∙ is) ]

  pub none-other : (a : Option X) → sooner at a None ≡ a
  none-other None = refl
  none-other (Some x) = refl

  sooner-three : (x y z : X) → sooner at (Some x) (sooner at (Some y) (Some z)) ≡ sooner at (sooner at (Some x) (Some y)) (Some z)
  sooner-three x y z = elim (some-sooner y z) [
    | inl zy ↦ (elim (some-sooner x y) [
      | inl yx ↦ (elim (some-sooner x z) [ inl zx ↦ rw (zy.1, yx.1, zx.1) (sym zy.1) | inr xz ↦ absurd (omega (arith, zy.0, yx.0, xz.0)) ])
      | inr xy ↦ rw (zy.1, xy.1) refl
    ])
    | inr yz ↦ (elim (some-sooner x y) [
      | inl yx ↦ rw (yz.1, yx.1) (sym yz.1)
      | inr xy ↦ (elim (some-sooner x z) [ inl zx ↦ absurd (omega (arith, yz.0, xy.0, zx.0)) | inr xz ↦ rw (yz.1, xy.1, xz.1) refl ])
    ])
  ]

  pub sooner-assoc : (a b c : Option X) → sooner at a (sooner at b c) ≡ sooner at (sooner at a b) c
  sooner-assoc None b c = refl
  sooner-assoc (Some x) None c = refl
  sooner-assoc (Some x) (Some y) None = sym (none-other (sooner at (Some x) (Some y)))
  sooner-assoc (Some x) (Some y) (Some z) = sooner-three x y z

  pub earliest-append : (xs ys : List X) → earliest at (xs ++ ys) ≡ sooner at (earliest at xs) (earliest at ys)
  earliest-append [] ys = refl
  earliest-append (x ∷ xs) ys = ap (sooner at (Some x)) (earliest-append xs ys) ∙ sooner-assoc (Some x) (earliest at xs) (earliest at ys)

  -- none is before it
  least-tail : (x : X) (xs : List X) (e : Option X) → earliest at xs ≡ e → ((t : X) → e ≡ Some t → All (λ y. at t ≤ at y) xs) → (e ≡ None → xs ≡ []) → (t : X) → sooner at (Some x) e ≡ Some t → All (λ y. at t ≤ at y) (x ∷ xs)
  least-tail x xs None is all none t first = let same : x ≡ t = cc first in All-cons (λ y. at t ≤ at y) x xs (rw same (omega arith)) (rw (none refl) (All-nil (λ y. at t ≤ at y)))
  least-tail x xs (Some y) is all none t first = elim (some-sooner x y) [
    | inl yx ↦ (let same : y ≡ t = cc (sym yx.1 ∙ first) in rw (← same) (All-cons (λ z. at y ≤ at z) x xs (omega (arith, yx.0)) (all y refl)))
    | inr xy ↦ (let same : x ≡ t = cc (sym xy.1 ∙ first) in rw (← same) (All-cons (λ z. at x ≤ at z) x xs (omega arith) (All-weaker (λ z. at y ≤ at z) (λ z. at x ≤ at z) (λ z le. omega (arith, le, xy.0)) xs (all y refl))))
  ]

  pub none-due : (xs : List X) → earliest at xs ≡ None → xs ≡ []
  none-due [] is = refl
  none-due (x ∷ xs) is = go (earliest at xs) is
    where
      go : (e : Option X) → sooner at (Some x) e ≡ None → x ∷ xs ≡ []
      go None is = absurd (cc is)
      go (Some y) is = elim (some-sooner x y) [ inl yx ↦ absurd (cc (sym yx.1 ∙ is)) | inr xy ↦ absurd (cc (sym xy.1 ∙ is)) ]

  pub least : (xs : List X) (t : X) → earliest at xs ≡ Some t → All (λ y. at t ≤ at y) xs
  least [] t is = All-nil (λ y. at t ≤ at y)
  least (x ∷ xs) t is = least-tail x xs (earliest at xs) refl (least xs) (none-due xs) t is

  -- one of them
  among-tail : (P : X → Type 0) (x : X) (xs : List X) (e : Option X) → P x → IfSome e P → (t : X) → sooner at (Some x) e ≡ Some t → P t
  among-tail P x xs None px pe t is = let same : x ≡ t = cc is in subst P same px
  among-tail P x xs (Some y) px pe t is = elim (some-sooner x y) [
    | inl yx ↦ (let same : y ≡ t = cc (sym yx.1 ∙ is) in subst P same pe)
    | inr xy ↦ (let same : x ≡ t = cc (sym xy.1 ∙ is) in subst P same px)
  ]

  some-of : (P : X → Type 0) (e : Option X) → ((t : X) → e ≡ Some t → P t) → IfSome e P
  some-of P None all = tt
  some-of P (Some t) all = all t refl

  pub among : (P : X → Type 0) (xs : List X) → All P xs → (t : X) → earliest at xs ≡ Some t → P t
  among P [] all t is = absurd (cc is)
  among P (x ∷ xs) all t is = among-tail P x xs (earliest at xs) (All-head P x xs all) (some-of P (earliest at xs) (among P xs (All-tail P x xs all))) t is

  -- one that is before none of the others, and that is first
  pub first-is : (x : X) (xs : List X) → All (λ y. at x ≤ at y) xs → earliest at (x ∷ xs) ≡ Some x
  first-is x xs all = go (earliest at xs) (some-of (λ y. at x ≤ at y) (earliest at xs) (among (λ y. at x ≤ at y) xs all))
    where
      go : (e : Option X) → IfSome e (λ y. at x ≤ at y) → sooner at (Some x) e ≡ Some x
      go None le = refl
      go (Some y) le = elim (some-sooner x y) [ inl yx ↦ absurd (omega (arith, yx.0, le)) | inr xy ↦ xy.1 ]

-- what comes first, seen otherwise
module _ {X Y : Type 0} (f : X → Y) (at : X → ℕ) (to : Y → ℕ) (same : (x : X) → to (f x) ≡ at x) where
  pub sooner-map : (a b : Option X) → option_map f (sooner at a b) ≡ sooner to (option_map f a) (option_map f b)
  sooner-map None b = refl
  sooner-map (Some x) None = refl
  sooner-map (Some x) (Some y) = elim (some-sooner at x y) [
    | inl yx ↦ (elim (some-sooner to (f x) (f y)) [ inl is ↦ rw (yx.1, is.1) refl | inr is ↦ (let l = same x in let r = same y in absurd (omega (arith, l, r, yx.0, is.0))) ])
    | inr xy ↦ (elim (some-sooner to (f x) (f y)) [ inl is ↦ (let l = same x in let r = same y in absurd (omega (arith, l, r, xy.0, is.0))) | inr is ↦ rw (xy.1, is.1) refl ])
  ]

  pub earliest-map : (xs : List X) → earliest to (map f xs) ≡ option_map f (earliest at xs)
  earliest-map [] = refl
  earliest-map (x ∷ xs) = ap (sooner to (Some (f x))) (earliest-map xs) ∙ sym (sooner-map (Some x) (earliest at xs))

-- the first of some times, and one more
pub times-pushed : {Y : Type 0} (time : Y → Option ℕ) (ys : List Y) (y : Y) → sooner (λ at. at) (earliest (λ at. at) (filter_map time ys)) (time y) ≡ earliest (λ at. at) (filter_map time (ys ++ y ∷ []))
times-pushed time ys y =
    ap (sooner (λ at. at) (earliest (λ at. at) (filter_map time ys))) (sym (one (time y)))
    ∙ sym (ap (earliest (λ at. at)) (filter_map-append time ys (y ∷ [])) ∙ earliest-append (λ at. at) (filter_map time ys) (filter_map time (y ∷ [])))
  where
    one : (o : Option ℕ) → earliest (λ at. at) (cons_option o []) ≡ o
    one None = refl
    one (Some at) = refl

pub times-more : (Y : Type 0) (time : Y → Option ℕ) (ys : List Y) (i : ℕ) (d : Y) → i < length ys → (first next : Option ℕ) → first ≡ earliest (λ at. at) (filter_map time (take i ys)) → next ≡ sooner (λ at. at) first (time (get_or ys i d))
    → next ≡ earliest (λ at. at) (filter_map time (take (i + 1) ys))
times-more Y time ys i d within first next was is =
    is ∙ ap (λ (a : Option ℕ). sooner (λ at. at) a (time (get_or ys i d))) was ∙ times-pushed time (take i ys) (get_or ys i d)
    ∙ sym (ap (λ (zs : List Y). earliest (λ at. at) (filter_map time zs)) (take_more ys i d within))
