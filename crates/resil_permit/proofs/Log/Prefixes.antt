-- Prefixes of one list, the longer of two, and what a filter keeps of them.
use Rattle.std.proofs.Common.{◌≡◌, ◌⊎◌, ⊎_elim, ◌≤◌, ◌<◌, Bool, true, cond, List, [], ◌∷◌, ◌++◌, filter, length, refl, ap, sym, ◌∙◌, arith, append_assoc, length-append, append-nil}
use Rattle.std.proofs.lemmas.List.Elements.{filter-append}
use mathlib.Core.List.{IsPrefix}
use Rattle.resil_permit.specs.Log.Seen.{longer_of}

pub prefix_self : {E : Type 0} (xs : List E) → IsPrefix xs xs
prefix_self xs = ([], append-nil xs)

pub prefix_push : {E : Type 0} (xs ys : List E) (e : E) → IsPrefix xs ys → IsPrefix xs (ys ++ e ∷ [])
prefix_push xs ys e p = (p.0 ++ e ∷ [], sym (append_assoc xs p.0 (e ∷ [])) ∙ ap (λ w. w ++ e ∷ []) p.1)

pub prefix_trans : {E : Type 0} (xs ys zs : List E) → IsPrefix xs ys → IsPrefix ys zs → IsPrefix xs zs
prefix_trans xs ys zs p q = (p.0 ++ q.0, sym (append_assoc xs p.0 q.0) ∙ (ap (λ w. w ++ q.0) p.1 ∙ q.1))

pub prefix_length : {E : Type 0} (xs ys : List E) → IsPrefix xs ys → length xs ≤ length ys
prefix_length xs ys p = omega (arith, sym (ap length p.1) ∙ length-append xs p.0)

-- of two prefixes of one list the shorter is a prefix of the longer
pub prefix_shorter : {E : Type 0} (xs ys zs : List E) → IsPrefix xs zs → IsPrefix ys zs → length xs ≤ length ys → IsPrefix xs ys
prefix_shorter [] ys zs p q le = (ys, refl)
prefix_shorter (x ∷ xs) [] zs p q le = absurd (omega arith)
prefix_shorter (x ∷ xs) (y ∷ ys) [] p q le = absurd (cc (p.1))
prefix_shorter (x ∷ xs) (y ∷ ys) (z ∷ zs) p q le =
    let heads : x ≡ y = cc (p.1, q.1) in
    let rest = prefix_shorter xs ys zs (p.0, cc (p.1)) (q.0, cc (q.1)) (omega arith) in
    (rest.0, cc (heads, rest.1))

-- a prefix as long as the whole is the whole
pub prefix_whole : {E : Type 0} (xs ys : List E) → IsPrefix xs ys → length ys ≤ length xs → xs ≡ ys
prefix_whole [] [] p le = refl
prefix_whole [] (y ∷ ys) p le = absurd (omega arith)
prefix_whole (x ∷ xs) [] p le = absurd (cc (p.1))
prefix_whole (x ∷ xs) (y ∷ ys) p le =
    let rest = prefix_whole xs ys (p.0, cc (p.1)) (omega arith) in cc (p.1, rest)

-- a fact of the longer of two lists, by which it is
pub longer_of_cases : {E : Type 0} (P : List E → Type 0) (xs ys : List E) → (length ys ≤ length xs → P xs) → (length xs < length ys → P ys) → P (longer_of xs ys)
longer_of_cases P xs ys one other = grind arith

-- of two prefixes of a list, one of them the whole, the longer is the whole
pub longer_of_whole : {E : Type 0} (xs ys log : List E) → IsPrefix xs log → IsPrefix ys log → (xs ≡ log) ⊎ (ys ≡ log) → longer_of xs ys ≡ log
longer_of_whole xs ys log p q one = longer_of_cases (λ zs. zs ≡ log) xs ys
    (λ le. prefix_whole xs log p (⊎_elim (λ (e : xs ≡ log). let l : length xs ≡ length log = ap length e in omega arith) (λ (e : ys ≡ log). let l : length ys ≡ length log = ap length e in omega arith) one))
    (λ lt. prefix_whole ys log q (⊎_elim (λ (e : xs ≡ log). let l : length xs ≡ length log = ap length e in omega arith) (λ (e : ys ≡ log). let l : length ys ≡ length log = ap length e in omega arith) one))

module _ {E : Type 0} (p : E → Bool) where
  pub filter_prefix : (xs ys : List E) → IsPrefix xs ys → IsPrefix (filter p xs) (filter p ys)
  filter_prefix xs ys q = (filter p q.0, sym (filter-append p xs q.0) ∙ ap (λ zs. filter p zs) q.1)

  -- what lies between two lists of which the filter keeps the same
  pub filter_between : (xs ys zs : List E) → IsPrefix xs ys → IsPrefix ys zs → filter p xs ≡ filter p zs → filter p ys ≡ filter p zs
  filter_between xs ys zs q r same =
      let a = prefix_length (filter p xs) (filter p ys) (filter_prefix xs ys q) in
      let l : length (filter p xs) ≡ length (filter p zs) = ap length same in
      prefix_whole (filter p ys) (filter p zs) (filter_prefix ys zs r) (omega arith)

  -- where the filter keeps nothing of a list, it keeps nothing of a prefix
  pub filter_none : (xs ys : List E) → IsPrefix xs ys → filter p ys ≡ [] → filter p xs ≡ []
  filter_none xs ys q none = filter_between [] xs ys (xs, refl) q (sym none) ∙ none

  pub filter_push : (xs : List E) (e : E) → p e ≡ true → filter p (xs ++ e ∷ []) ≡ filter p xs ++ e ∷ []
  filter_push xs e is = filter-append p xs (e ∷ []) ∙ ap (λ b. filter p xs ++ cond b (e ∷ []) []) is
