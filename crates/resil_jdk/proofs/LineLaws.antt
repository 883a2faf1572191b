-- The line of those that were queued, and those of them that wait.
use Rattle.std.proofs.Common.{◌≡◌, ◌≤◌, ◌+◌, ◌∷◌, [], ◌++◌, ◌∙◌, ◌||◌, ◌&&◌, Bool, true, false, not, List, Some, filter, slice_get, refl, sym, ap, arith}
use Rattle.std.proofs.lemmas.Bool.{cases_Bool}
use Rattle.std.proofs.lemmas.List.Elements.{filter-append}
use Rattle.std.proofs.lemmas.List.Folds.{list_any-append}
use Rattle.resil_rule.specs.History.{is_same_id, is_among, times}
use Rattle.resil_rule.specs.declared.event.Id.{Id}
use Rattle.resil_rule.proofs.IdLaws.{same_id-self}
use Rattle.resil_rule.proofs.TimesLaws.{among-times, is_positive, times-filter, somewhere, nowhere, among-some}
use Rattle.resil_jdk.specs.History.{without}
use Rattle.resil_jdk.specs.RuleView.{IsSameQueue}
use Rattle.resil_jdk.proofs.ConservationLaws.{front-among}

-- those that wait, of a line
abbrev pub those : List Id → List Id → List Id
those waits line = filter (λ id. is_among id waits) line

-- without some, and without others
pub without-both : (a b ids : List Id) → without (a ++ b) ids ≡ without b (without a ids)
without-both a b [] = refl
without-both a b (y ∷ ids) = grind (arith, list_any-append (is_same_id y) a b, without-both a b ids, cases_Bool (is_among y a), cases_Bool (is_among y b))

-- who is among a list that passes the same tests
filter-same : (p q : Id → Bool) (ids : List Id) → ((x : Id) → is_among x ids ≡ true → p x ≡ q x) → filter p ids ≡ filter q ids
filter-same p q [] same = refl
filter-same p q (y ∷ ids) same =
    let first = same y (ap (λ (b : Bool). b || is_among y ids) (same_id-self y)) in
    let rest = filter-same p q ids (λ x among. same x (grind (arith, among, cases_Bool (is_same_id x y)))) in grind (arith, first, rest, cases_Bool (q y))

filter-both : (p q : Id → Bool) (ids : List Id) → filter (λ x. q x && p x) ids ≡ filter q (filter p ids)
filter-both p q [] = refl
filter-both p q (y ∷ ids) = grind (arith, filter-both p q ids, cases_Bool (p y), cases_Bool (q y))

filter-twice : (p : Id → Bool) (ids : List Id) → filter p (filter p ids) ≡ filter p ids
filter-twice p [] = refl
filter-twice p (y ∷ ids) = grind (arith, filter-twice p ids, cases_Bool (p y))

among-filter : (p : Id → Bool) (x : Id) (ids : List Id) → is_among x (filter p ids) ≡ true → is_among x ids ≡ true
among-filter p x ids among =
    let some = somewhere x (filter p ids) among in among-some x ids (grind (arith, some, times-filter p x ids, cases_Bool (p x)))

-- the line without those that don't wait
pub kept-same : (waits line : List Id) → IsSameQueue waits line (those waits line)
kept-same waits line = record { queue = filter-twice (λ id. is_among id waits) line; line = λ x. among-filter (λ id. is_among id waits) x line }

-- the first of those that wait does
pub front-waits : (waits line : List Id) (id : Id) → slice_get (those waits line) 0 ≡ Some id → is_among id waits ≡ true
front-waits waits line id front =
    let some = somewhere id (those waits line) (front-among id (those waits line) front) in
    grind (arith, some, times-filter (λ y. is_among y waits) id line, cases_Bool (is_among id waits))

-- who is in one of two lists of ids, as often as in another
pub among-same : (x : Id) (a b : List Id) → times x a ≡ times x b → is_among x a ≡ is_among x b
among-same x a b same = among-times x a ∙ ap is_positive same ∙ sym (among-times x b)

-- The line after an event: some leave it, and then others come that weren't in it. Those that wait are those that waited, without the ones that left,
-- and then those that came.
module _ (line old after gone come : List Id)
    (few : (x : Id) → times x old ≤ 1)
    (counts : (x : Id) → times x after + times x gone ≡ times x old + times x come)
    (new : (x : Id) → is_among x line ≡ true → is_among x come ≡ false)
    (stays : (x : Id) → is_among x come ≡ true → is_among x gone ≡ false) where
  old-ones : (x : Id) → is_among x line ≡ true → is_among x after ≡ (not (is_among x gone) && is_among x old)
  old-ones x among =
      let none = nowhere x come (new x among) in grind (
        arith,
        none,
        few x,
        counts x,
        somewhere x old,
        nowhere x old,
        somewhere x gone,
        nowhere x gone,
        somewhere x after,
        nowhere x after,
        cases_Bool (is_among x after),
        cases_Bool (is_among x gone),
        cases_Bool (is_among x old),
      )

  new-ones : (x : Id) → is_among x come ≡ true → is_among x after ≡ true
  new-ones x among =
      let none = nowhere x gone (stays x among) in let some = somewhere x come among in among-some x after (omega (arith, none, some, counts x))

  all-pass : (p : Id → Bool) (ids : List Id) → ((x : Id) → is_among x ids ≡ true → p x ≡ true) → filter p ids ≡ ids
  all-pass p [] pass = refl
  all-pass p (y ∷ ids) pass =
      let first = pass y (ap (λ (b : Bool). b || is_among y ids) (same_id-self y)) in
      let rest = all-pass p ids (λ x among. pass x (grind (arith, among, cases_Bool (is_same_id x y)))) in grind (arith, first, rest)

  pub line-after : those after (line ++ come) ≡ without gone (those old line) ++ come
  line-after = filter-append (λ id. is_among id after) line come
      ∙ ap (λ (ids : List Id). ids ++ those after come) (filter-same (λ id. is_among id after) (λ x. not (is_among x gone) && is_among x old) line old-ones ∙ filter-both (λ x. is_among x old) (λ x. not (is_among x gone)) line)
      ∙ ap (λ (ids : List Id). without gone (those old line) ++ ids) (all-pass (λ id. is_among id after) come new-ones)
