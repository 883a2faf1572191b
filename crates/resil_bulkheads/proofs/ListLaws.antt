-- Lists side by side, and what comes last in a list.
use Rattle.std.proofs.Common.{◌≡◌, ℕ, zero, suc, ◌+◌, ◌<◌, List, [], ◌∷◌, ◌++◌, length, get_or, map, take, Bool, Option, Some, None, true, false, cond, refl, sym, ap, ◌∙◌, arith}
use Rattle.std.specs.List.{AllZip, position_from}
use Rattle.std.specs.Prelude.{slice_get, option_map}
use Rattle.std.proofs.lemmas.Grind.{take_at_read}
use Rattle.std.proofs.lemmas.List.{map-append}
use Rattle.std.proofs.lemmas.Option.{none-some}

pub AllZip-length : {A B : Type 0} (R : A → B → Type 0) (xs : List A) (ys : List B) → AllZip R xs ys → length ys ≡ length xs
AllZip-length R [] [] all = refl
AllZip-length R [] (y ∷ ys) all = absurd all
AllZip-length R (x ∷ xs) [] all = absurd all
AllZip-length R (x ∷ xs) (y ∷ ys) all = ap suc (AllZip-length R xs ys all.1)

pub AllZip-append_one : {A B : Type 0} (R : A → B → Type 0) (xs : List A) (ys : List B) (x : A) (y : B) → AllZip R xs ys → R x y → AllZip R (xs ++ x ∷ []) (ys ++ y ∷ [])
AllZip-append_one R [] [] x y all one = (one, tt)
AllZip-append_one R [] (y' ∷ ys) x y all one = absurd all
AllZip-append_one R (x' ∷ xs) [] x y all one = absurd all
AllZip-append_one R (x' ∷ xs) (y' ∷ ys) x y all one = (all.0, AllZip-append_one R xs ys x y all.1 one)

pub AllZip-by : {A B : Type 0} (R S : A → B → Type 0) → ((x : A) (y : B) → R x y → S x y) → (xs : List A) (ys : List B) → AllZip R xs ys → AllZip S xs ys
AllZip-by R S by [] [] all = tt
AllZip-by R S by [] (y ∷ ys) all = absurd all
AllZip-by R S by (x ∷ xs) [] all = absurd all
AllZip-by R S by (x ∷ xs) (y ∷ ys) all = (by x y all.0, AllZip-by R S by xs ys all.1)

-- one more item on both sides; the left one is the next of a list
pub AllZip-next : {A B C : Type 0} (R : A → B → Type 0) (f : C → A) (xs : List C) (i : ℕ) (x : C) (ys new : List B) (y : B) → i < length xs → x ≡ get_or xs i x
    → new ≡ ys ++ y ∷ [] → AllZip R (map f (take i xs)) ys → R (f x) y → AllZip R (map f (take (i + 1) xs)) new
AllZip-next R f xs i x ys new y within is last all one =
    let more : take (i + 1) xs ≡ take i xs ++ x ∷ [] = (take_at_read xs i x within).1 ∙ ap (λ z. take i xs ++ z ∷ []) (sym is) in
    let shown : map f (take (i + 1) xs) ≡ map f (take i xs) ++ f x ∷ [] = ap (map f) more ∙ map-append f (take i xs) (x ∷ []) in
    rw (shown, last) (AllZip-append_one R (map f (take i xs)) ys (f x) y all one)

-- what is found in a list is found in a longer one
pub slice_get-longer : {V M : Type 0} (f : V → M) (xs ys : List V) (i : ℕ) (m : M) → option_map f (slice_get xs i) ≡ Some m → option_map f (slice_get (xs ++ ys) i) ≡ Some m
slice_get-longer f [] ys i m e = absurd (none-some m e)
slice_get-longer f (x ∷ xs) ys zero m e = e
slice_get-longer f (x ∷ xs) ys (suc i) m e = slice_get-longer f xs ys i m e

cond-past : (b : Bool) (i n : ℕ) (rest rest' : Option ℕ) → cond b (Some i) rest ≡ None → (rest ≡ None → rest' ≡ Some n) → cond b (Some i) rest' ≡ Some n
cond-past true i n rest rest' e by = absurd (none-some i (sym e))
cond-past false i n rest rest' e by = by e

pub position_from-last : (t : List ℕ → Bool) (i : ℕ) (xs : List (List ℕ)) (y : List ℕ) → t y ≡ true → position_from t i xs ≡ None → position_from t i (xs ++ y ∷ []) ≡ Some (i + length xs)
position_from-last t i [] y passes none =
    let zero_more : i ≡ i + 0 = omega arith in ap (λ b. cond b (Some i) None) passes ∙ ap Some zero_more
position_from-last t i (x ∷ xs) y passes none =
    let one_more : i + 1 + length xs ≡ i + suc (length xs) = omega arith in
    cond-past (t x) i (i + suc (length xs)) (position_from t (i + 1) xs) (position_from t (i + 1) (xs ++ y ∷ [])) none (λ rest. position_from-last t (i + 1) xs y passes rest ∙ ap Some one_more)

cond-longer : (b : Bool) (i n : ℕ) (rest rest' : Option ℕ) → cond b (Some i) rest ≡ Some n → (rest ≡ Some n → rest' ≡ Some n) → cond b (Some i) rest' ≡ Some n
cond-longer true i n rest rest' e by = e
cond-longer false i n rest rest' e by = by e

-- what is first in a list is first in a longer one
pub position_from-longer : (t : List ℕ → Bool) (i n : ℕ) (xs ys : List (List ℕ)) → position_from t i xs ≡ Some n → position_from t i (xs ++ ys) ≡ Some n
position_from-longer t i n [] ys e = absurd (none-some n e)
position_from-longer t i n (x ∷ xs) ys e =
    cond-longer (t x) i n (position_from t (i + 1) xs) (position_from t (i + 1) (xs ++ ys)) e (λ rest. position_from-longer t (i + 1) n xs ys rest)

pub slice_get-last : {V : Type 0} (xs : List V) (y : V) (n : ℕ) → n ≡ length xs → slice_get (xs ++ y ∷ []) n ≡ Some y
slice_get-last [] y zero e = refl
slice_get-last [] y (suc n) e = absurd (omega (arith, e))
slice_get-last (x ∷ xs) y zero e = absurd (omega (arith, e))
slice_get-last (x ∷ xs) y (suc n) e = let same : n ≡ length xs = omega (arith, e) in slice_get-last xs y n same
