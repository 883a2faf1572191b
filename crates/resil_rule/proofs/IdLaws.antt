-- Ids in lists, and which of them aren't finished.
use Rattle.std.proofs.Common.{◌≡◌, ◌++◌, ◌∙◌, ℕ, Bool, true, not, ◌&&◌, ◌||◌, ◌==◌, List, refl, sym, ap, arith, filter, take, drop}
use Rattle.std.proofs.lemmas.Bool.{and_parts, cases_Bool}
use Rattle.std.proofs.lemmas.Grind.{common_steps}
use Rattle.std.proofs.lemmas.List.Folds.{list_any-append}
use Rattle.std.proofs.lemmas.List.{take-append-drop}
use Rattle.std.proofs.lemmas.Map.Views.{any-filter_same}
use Rattle.resil_rule.specs.declared.event.Id.{Id}
use Rattle.resil_rule.specs.declared.event.Event.{Event}
use Rattle.resil_rule.specs.History.{is_among, is_same_id, started, taken, finished, unfinished, running}

-- if both of two tests pass, each of them passes
pub both : (a b : Bool) → (a && b) ≡ true → (a ≡ true) × (b ≡ true)
both a b h = and_parts a b h

-- ids that the test calls the same are equal
pub same_id-equal : (a b : Id) → is_same_id a b ≡ true → a ≡ b
same_id-equal a b h =
    let parts = both (a.caller == b.caller) (a.number == b.number) h in
    let caller : a.caller ≡ b.caller = grind (arith, common_steps, parts.0) in
    let number : a.number ≡ b.number = grind (arith, common_steps, parts.1) in
    let id_of : ℕ → ℕ → Id = λ c n. record { caller = c; number = n } in
    ap (λ c. id_of c a.number) caller ∙ ap (id_of b.caller) number

pub same_id-self : (a : Id) → is_same_id a a ≡ true
same_id-self a = grind (arith, common_steps)

-- a job is unfinished in two lists if it isn't finished and is in one of them
pub among-unfinished : (done a b : List Id) (id : Id) → is_among id (filter (λ x. not (is_among x done)) (a ++ b)) ≡ (not (is_among id done) && (is_among id a || is_among id b))
among-unfinished done a b id =
    any-filter_same (is_same_id id) (λ x. not (is_among x done)) (not (is_among id done)) (λ x same. ap (λ (y : Id). not (is_among y done)) (sym (same_id-equal id x same))) (a ++ b)
    ∙ ap (λ t. not (is_among id done) && t) (list_any-append (is_same_id id) a b)

-- an id among the first items of a list is in the list
among-take : (n : ℕ) (id : Id) (xs : List Id) → is_among id (take n xs) ≡ true → is_among id xs ≡ true
among-take n id xs h =
    let whole : is_among id (take n xs ++ drop n xs) ≡ true = list_any-append (is_same_id id) (take n xs) (drop n xs) ∙ rw h refl in
    rw take-append-drop at whole

-- a job that is out is running
pub in_flight-running : (h : List Event) (picked : ℕ) (id : Id) → is_among id (unfinished h (take picked (started h) ++ taken h)) ≡ true → is_among id (running h) ≡ true
in_flight-running h picked id out =
    let early = take picked (started h) in
    let before = among-unfinished (finished h) early (taken h) id in
    let all = among-unfinished (finished h) (started h) (taken h) id in
    let among = among-take picked id (started h) in
    grind (arith, out, before, all, among, cases_Bool (is_among id (finished h)), cases_Bool (is_among id early), cases_Bool (is_among id (taken h)))
