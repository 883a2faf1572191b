-- Lists from which no value is missing, and scripts.
use Rattle.std.proofs.Common.{◌≡◌, ◌<◌, ◌∷◌, ◌++◌, ◌==◌, ◌∙◌, ℕ, List, [], Option, Some, None, Result, Ok, Err, Bool, true, false, length, map, refl, sym, ap, arith, append_assoc}
use Rattle.std.proofs.lemmas.Grind.{common_steps}
use Rattle.std.proofs.lemmas.List.{length-map}
use Rattle.std.proofs.lemmas.List.Splits.{length-slice_split, slice_split_at, slice_split_none}
use Rattle.std.specs.Bool.{MatchBool}
use Rattle.std.specs.List.{All, IsFirstMatchOrLen, slice_split}
use Rattle.std.specs.Prelude.{option_map}
use Rattle.std.specs.Result.{OkIff, result_ok}
use Rattle.resil_retry.specs.declared.outcome.Outcome.{Outcome}
use Rattle.resil_input.specs.OutcomeText.{parse_outcome}
use Rattle.resil_input.proofs.OutcomeLaws.{option_map-some}
use Rattle.resil_input.specs.Script.{all_some, split_items, parse_script}

-- the parts that a split has yet to give; it has given all once it is done
abbrev pub parts_left : {X : Type 0} → (X → Bool) → Bool → List X → List (List X)
parts_left p true rest = []
parts_left p false rest = slice_split p rest

-- values, if they are all there, after others
abbrev pub behind : {A : Type 0} → List A → Option (List A) → Option (List A)
behind front values = option_map (λ more. front ++ more) values

-- the next part of a split
pub parts-next : {X : Type 0} (p : X → Bool) (done : Bool) (rest part after : List X) → MatchBool done (rest ≡ part) ((x : X) × (rest ≡ part ++ x ∷ after)) → IsFirstMatchOrLen p rest (length part)
    → slice_split p rest ≡ part ∷ parts_left p done after
parts-next p true rest part after cut first =
    let none : All (λ x. p x ≡ false) part = λ k d within. rw cut at (first.0 k d (omega arith) within) in
    rw cut (slice_split_none p part none)
parts-next p false rest part after cut first =
    let e = cut.1 in
    let none : All (λ x. p x ≡ false) part = λ k d within. let other = first.0 k d (omega arith) within in grind (arith, common_steps) in
    let some : p cut.0 ≡ true = let at = first.1 (grind (arith, common_steps)) cut.0 in grind (arith, common_steps) in
    rw e (slice_split_at p part cut.0 after none some)

module _ {X A : Type 0} (f : X → Option A) (front : List A) (item : X) (items : List X) where
  -- one more value that isn't missing
  pub there-next : (value : A) → f item ≡ Some value → behind front (all_some (map f (item ∷ items))) ≡ behind (front ++ value ∷ []) (all_some (map f items))
  there-next value is = rw is (go (all_some (map f items)))
    where
      go : (more : Option (List A)) → behind front (option_map (λ values. value ∷ values) more) ≡ behind (front ++ value ∷ []) more
      go None = refl
      go (Some values) = ap Some (sym (append_assoc front (value ∷ []) values))

  -- if one value is missing, there is no list of all
  pub there-gap : f item ≡ None → behind front (all_some (map f (item ∷ items))) ≡ None
  there-gap none = rw none refl

all_some-length : {A : Type 0} (values : List (Option A)) (all : List A) → all_some values ≡ Some all → length values ≡ length all
all_some-length [] all e = let none : [] ≡ all = cc e in ap length none
all_some-length (None ∷ values) all e = cc e
all_some-length (Some value ∷ values) all e =
    option_map-some (λ rest. value ∷ rest) (all_some values) all e (λ rest some whole. omega (arith, all_some-length values rest some, ap length whole))

-- a script of all outcomes of a text, which has at least one
pub script-made : {E : Type 0} (made : Result (List Outcome) E) (outcomes : List Outcome) (text : List ℕ) → OkIff made (0 < length outcomes) outcomes
    → parse_script text ≡ Some outcomes → result_ok made ≡ parse_script text
script-made (Ok script) outcomes text h e = ap Some h.1 ∙ sym e
script-made (Err why) outcomes text h e =
    absurd (h (omega (arith, all_some-length (map parse_outcome (split_items text)) outcomes e, length-map (split_items text) parse_outcome, length-slice_split (λ byte. byte == 59) text)))
