-- How many times an id is in a list of ids.
use Rattle.std.proofs.Common.{◌≡◌, ◌≤◌, ◌+◌, ◌∷◌, [], ◌++◌, ◌∙◌, ℕ, zero, suc, Bool, true, false, not, ◌||◌, cond, ◌⊎◌, inl, inr, List, length, filter, refl, sym, ap, arith, length-append}
use Rattle.std.proofs.Math.Bool.{or-false}
use Rattle.std.proofs.lemmas.Bool.{cases_Bool}
use Rattle.std.proofs.lemmas.Grind.{common_steps}
use Rattle.std.proofs.lemmas.List.Elements.{filter-append}
use Rattle.std.proofs.lemmas.List.Folds.{list_any-append}
use Rattle.resil_rule.proofs.IdLaws.{same_id-equal, same_id-self}
use Rattle.resil_rule.specs.declared.event.Id.{Id}
use Rattle.resil_rule.specs.History.{is_among, is_same_id, times}

pub times-append : (x : Id) (a b : List Id) → times x (a ++ b) ≡ times x a + times x b
times-append x a b = ap length (filter-append (is_same_id x) a b) ∙ length-append (filter (is_same_id x) a) (filter (is_same_id x) b)

pub one-if : {A : Type 0} (b : Bool) (x : A) → length (cond b (x ∷ []) []) ≡ cond b 1 0
one-if true x = refl
one-if false x = refl

pub times-one : (x id : Id) → times x (id ∷ []) ≡ cond (is_same_id x id) 1 0
times-one x id = one-if (is_same_id x id) id

pub same_id-sym : (a b : Id) → is_same_id a b ≡ is_same_id b a
same_id-sym a b = grind (arith, common_steps)

-- one more id at the end
pub times-last : (x id : Id) (ids : List Id) → times x (ids ++ id ∷ []) ≡ times x ids + cond (is_same_id id x) 1 0
times-last x id ids = times-append x ids (id ∷ []) ∙ ap (λ n. times x ids + n) (times-one x id ∙ ap (λ b. cond b 1 0) (same_id-sym x id))

-- an id is in a list if it is there once or more
abbrev pub is_positive : ℕ → Bool
is_positive zero = false
is_positive (suc n) = true

pub among-times : (x : Id) (ids : List Id) → is_among x ids ≡ is_positive (times x ids)
among-times x [] = refl
among-times x (y ∷ ids) = grind (arith, among-times x ids, cases_Bool (is_same_id x y))

-- whether an id is in a list, and how many times
none-or-some : (n : ℕ) → ((n ≡ 0) × (is_positive n ≡ false)) ⊎ ((1 ≤ n) × (is_positive n ≡ true))
none-or-some zero = inl (refl, refl)
none-or-some (suc n) = inr (omega arith, refl)

pub somewhere : (x : Id) (ids : List Id) → is_among x ids ≡ true → 1 ≤ times x ids
somewhere x ids some = grind (arith, among-times x ids, none-or-some (times x ids))

pub nowhere : (x : Id) (ids : List Id) → is_among x ids ≡ false → times x ids ≡ 0
nowhere x ids none = grind (arith, among-times x ids, none-or-some (times x ids))

pub among-some : (x : Id) (ids : List Id) → 1 ≤ times x ids → is_among x ids ≡ true
among-some x ids some = grind (arith, among-times x ids, none-or-some (times x ids))

-- an id that passes is there as many times as before, and one that doesn't pass is gone
pub times-filter : (p : Id → Bool) (x : Id) (ids : List Id) → times x (filter p ids) ≡ cond (p x) (times x ids) 0
times-filter p x [] = grind (arith, cases_Bool (p x))
times-filter p x (y ∷ ids) =
    grind (arith, times-filter p x ids, cases_Bool (p x), cases_Bool (p y), cases_Bool (is_same_id x y), same_id-equal x y)

-- how many times an id is left in two lists without those that are done
pub times-left : (done one other : List Id) (x : Id) → times x (filter (λ y. not (is_among y done)) (one ++ other)) ≡ cond (is_among x done) 0 (times x one + times x other)
times-left done one other x =
    grind (arith, times-filter (λ y. not (is_among y done)) x (one ++ other), times-append x one other, cases_Bool (is_among x done))

-- whether an id is among those that are done, with one more done
pub among-last : (x id : Id) (done : List Id) → is_among x (done ++ id ∷ []) ≡ (is_among x done || is_same_id id x)
among-last x id done =
    list_any-append (is_same_id x) done (id ∷ []) ∙ ap (λ b. is_among x done || b) (or-false (is_same_id x id) ∙ same_id-sym x id)

-- with one more done, that id is no longer left
pub left-fewer : (done : List Id) (id : Id) (ids : List Id)
    → length (filter (λ y. not (is_among y (done ++ id ∷ []))) ids) + times id (filter (λ y. not (is_among y done)) ids) ≡ length (filter (λ y. not (is_among y done)) ids)
left-fewer done id [] = refl
left-fewer done id (y ∷ ids) =
    grind (arith, among-last y id done, left-fewer done id ids, cases_Bool (is_among y done), cases_Bool (is_same_id id y))

-- an id in a list has ids before it and after it
among-parts : (x : Id) (ids : List Id) → is_among x ids ≡ true → (front : List Id) × (back : List Id) × (ids ≡ front ++ x ∷ back)
among-parts x [] among = absurd (cc among)
among-parts x (y ∷ ids) among = elim (cases_Bool (is_same_id x y)) [
  | inl same ↦ ([], ids, ap (λ (z : Id). z ∷ ids) (sym (same_id-equal x y same)))
  | inr other ↦ let p = among-parts x ids (rw other at among) in (y ∷ p.0, p.1, ap (λ (zs : List Id). y ∷ zs) p.2)
]

times-self : (x : Id) (ids : List Id) → times x (x ∷ ids) ≡ 1 + times x ids
times-self x ids = times-append x (x ∷ []) ids ∙ ap (λ n. n + times x ids) (times-one x x ∙ ap (λ b. cond b 1 0) (same_id-self x))

-- two lists in which each id is equally often are equally long
pub same-length : (xs ys : List Id) → ((x : Id) → times x xs ≡ times x ys) → length xs ≡ length ys
same-length [] [] same = refl
same-length [] (y ∷ ys) same = absurd (omega (arith, same y, times-self y ys))
same-length (x ∷ xs) ys same =
    let first : 1 ≤ times x ys = omega (arith, same x, times-self x xs) in
    let p = among-parts x ys (among-some x ys first) in
    let others : (z : Id) → times z xs ≡ times z (p.0 ++ p.1) = λ z.
    let whole = ap (times z) p.2 ∙ times-append z p.0 (x ∷ p.1) in
    omega (arith, same z, times-append z (x ∷ []) xs, whole, times-append z (x ∷ []) p.1, times-append z p.0 p.1) in
    let rest = same-length xs (p.0 ++ p.1) others ∙ length-append p.0 p.1 in
    let long = ap length p.2 ∙ length-append p.0 (x ∷ p.1) in
    omega (arith, rest, long)
