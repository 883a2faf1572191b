-- Laws of reading one element after another.
use Rattle.std.proofs.Common.{◌≡◌, ◌≢◌, ◌<◌, ◌+◌, ◌∙◌, ◌∷◌, ◌++◌, ℕ, List, [], Some, Result, Ok, Err, length, get_or, drop, map, refl, sym, ap, append_assoc}
use Rattle.std.proofs.lemmas.List.{drop_more}
use Rattle.std.specs.Option.{ok_or}
use Rattle.toml.specs.Data.{Data, Members, as_array}
use Rattle.toml.specs.View.{items_of, items_view, view}
use Rattle.toml.specs.declared.value.Value.{Value}
use Rattle.resil_heads.specs.Checks.{and_then}
use Rattle.resil_heads.specs.Keys.{each, fraction_from, items_listed}
use Rattle.resil_heads.specs.LayerValues.{check_layer, check_layers}
use Rattle.resil_heads.specs.declared.layers.values.Stage.{Stage}
use Rattle.resil_heads.specs.declared.error.HeadError.{HeadError}
use Rattle.resil_heads.specs.declared.error.HeadError.TheVariants as error

-- what was read so far, and then what is read of the rest
abbrev pub after : {B : Type 0} → List B → Result (List B) HeadError → Result (List B) HeadError
after prefix rest = and_then rest (λ more. Ok (prefix ++ more))

pub after_none : {B : Type 0} (rest : Result (List B) HeadError) → after [] rest ≡ rest
after_none (Ok more) = refl
after_none (Err why) = refl

pub after-next : {B : Type 0} (prefix : List B) (y : B) (rest : Result (List B) HeadError) → after prefix (and_then rest (λ ys. Ok (y ∷ ys))) ≡ after (prefix ++ y ∷ []) rest
after-next prefix y (Ok more) = ap Ok (sym (append_assoc prefix (y ∷ []) more))
after-next prefix y (Err why) = refl

-- reading what elements are mapped to
pub each_map : {A B C : Type 0} (read : B → Result C HeadError) (f : A → B) (xs : List A) → each read (map f xs) ≡ each (λ x. read (f x)) xs
each_map read f [] = refl
each_map read f (x ∷ xs) = ap (λ rest. and_then (read (f x)) (λ y. and_then rest (λ ys. Ok (y ∷ ys)))) (each_map read f xs)

-- the first of the elements that are left is read
pub each_turn : {A B : Type 0} (read : A → Result B HeadError) (x : A) (y : B) (left rest : List A) (prefix : List B) (all : Result (List B) HeadError)
    → left ≡ x ∷ rest → read x ≡ Ok y → after prefix (each read left) ≡ all → after (prefix ++ y ∷ []) (each read rest) ≡ all
each_turn read x y left rest prefix all is said inv =
    let read_on = rw (is, said) at inv in
    sym (after-next prefix y (each read rest)) ∙ read_on

-- an element that is read
pub each_next : {A B : Type 0} (read : A → Result B HeadError) (xs : List A) (i : ℕ) (x : A) (y : B) (prefix : List B) (all : Result (List B) HeadError)
    → i < length xs → x ≡ get_or xs i x → read x ≡ Ok y → after prefix (each read (drop i xs)) ≡ all → after (prefix ++ y ∷ []) (each read (drop (i + 1) xs)) ≡ all
each_next read xs i x y prefix all within is said inv =
    each_turn read x y (drop i xs) (drop (i + 1) xs) prefix all (drop_more xs i x within ∙ ap (λ z. z ∷ drop (i + 1) xs) (sym is)) said inv

-- before the first element, of a list that is read as it is seen
pub each-init : {A B C : Type 0} (read : B → Result C HeadError) (f : A → B) (xs : List A) (prefix : List C) → prefix ≡ []
    → after prefix (each (λ x. read (f x)) xs) ≡ each read (map f xs)
each-init read f xs prefix none = rw none (after_none (each (λ x. read (f x)) xs) ∙ sym (each_map read f xs))

-- the items of an array, as a list
pub items_listed-of : (ds : List Data) → items_listed (items_of ds) ≡ ds
items_listed-of [] = refl
items_listed-of (d ∷ ds) = ap (λ rest. d ∷ rest) (items_listed-of ds)

-- before the first item of an array
pub array-init : {C : Type 0} (read : Data → Result C HeadError) (items vs : List Value) (d : Data) (prefix : List C) → prefix ≡ [] → items ≡ vs → Some (items_view vs) ≡ as_array d
    → after prefix (each (λ v. read (view v)) items) ≡ and_then (ok_or (as_array d) error.BadValue) (λ items. each read (items_listed items))
array-init read items vs d prefix none same is =
    rw (← is, same) (each-init read view vs prefix none ∙ ap (each read) (sym (items_listed-of (map view vs))))

-- a fraction has two items
pub other_fraction : (vs : List Value) → length vs ≢ 2 → fraction_from (items_view vs) ≡ Err error.BadValue
other_fraction [] other = refl
other_fraction (p ∷ []) other = refl
other_fraction (p ∷ q ∷ []) other = absurd (other refl)
other_fraction (p ∷ q ∷ r ∷ rest) other = refl

-- the first of the layers that are left passes
pub next_checks : {X : Type 0} (stage : Stage) (f : X → Members) (xs : List X) (i : ℕ) (x : X) (passed : Unit {0}) (all : Result (Unit {0}) HeadError)
    → i < length xs → x ≡ get_or xs i x → check_layer stage (f x) ≡ Ok passed → check_layers stage (map f (drop i xs)) ≡ all → check_layers stage (map f (drop (i + 1) xs)) ≡ all
next_checks stage f xs i x passed all within is said inv =
    let here : drop i xs ≡ x ∷ drop (i + 1) xs = drop_more xs i x within ∙ ap (λ z. z ∷ drop (i + 1) xs) (sym is) in
    rw (here, said) at inv
