-- A job gets a place, and leaves it again.
use Rattle.std.proofs.Common.{◌≡◌, ◌≢◌, ◌<◌, ◌≤◌, ◌+◌, ◌∷◌, [], ◌++◌, ◌∙◌, ℕ, zero, suc, All, Bool, true, false, cond, List, Option, Some, None, length, position, replicate, get_or, slice_get, slice_set, refl, sym, ap, arith, length-append, length-set}
use Rattle.std.specs.List.{position_from}
use Rattle.std.proofs.lemmas.Bool.{cases_Bool}
use Rattle.std.proofs.lemmas.List.Quantifiers.{position-Some}
use Rattle.std.proofs.lemmas.List.{length-replicate}
use Rattle.std.proofs.lemmas.Option.{slice_get-get_or}
use Rattle.std.proofs.lemmas.Iterator.Adapters.{position_from-zero}
use Rattle.resil_rule.specs.History.{is_same_id, is_among, times}
use Rattle.circular_buffer.proofs.Places.{slice_get-set_other}
use Rattle.resil_rule.specs.Slots.{AreFree, ids_out, is_of}
use Rattle.resil_rule.specs.declared.event.Id.{Id}
use Rattle.resil_rule.proofs.IdLaws.{same_id-equal, same_id-self}
use Rattle.resil_rule.proofs.TimesLaws.{times-last, times-append}

-- one job more, at a place that was free, between the others
put-parts : (id : Id) (places : List (Option Id)) (i : ℕ) → slice_get places i ≡ Some None → (front : List Id) × (back : List Id) × (ids_out places ≡ front ++ back) × (ids_out (slice_set places i (Some id)) ≡ front ++ id ∷ back)
put-parts id [] i free = absurd (cc free)
put-parts id (None ∷ places) zero free = ([], ids_out places, refl, refl)
put-parts id (Some y ∷ places) zero free = absurd (cc free)
put-parts id (None ∷ places) (suc i) free = put-parts id places i free
put-parts id (Some y ∷ places) (suc i) free = let p = put-parts id places i free in (y ∷ p.0, p.1, ap (λ (ids : List Id). y ∷ ids) p.2, ap (λ (ids : List Id). y ∷ ids) p.3)

pub put-times : (x id : Id) (places : List (Option Id)) (i : ℕ) → slice_get places i ≡ Some None → times x (ids_out (slice_set places i (Some id))) ≡ times x (ids_out places) + cond (is_same_id id x) 1 0
put-times x id places i free =
    let p = put-parts id places i free in
    let before = ap (times x) p.2 ∙ times-append x p.0 p.1 in
    let after = ap (times x) p.3 ∙ times-append x p.0 (id ∷ p.1) in
    omega (arith, before, after, times-append x (id ∷ []) p.1, times-last x id [])

pub put-length : (id : Id) (places : List (Option Id)) (i : ℕ) → slice_get places i ≡ Some None → length (ids_out (slice_set places i (Some id))) ≡ length (ids_out places) + 1
put-length id places i free =
    let p = put-parts id places i free in
    let before = ap length p.2 ∙ length-append p.0 p.1 in
    let after = ap length p.3 ∙ length-append p.0 (id ∷ p.1) in
    omega (arith, before, after)

-- one job fewer: its place is free then, and putting the job there again restores the places
cleared : (o : Option Id) (places : List (Option Id)) (i : ℕ) (p : Option Id) → slice_get places i ≡ Some p → (slice_get (slice_set places i o) i ≡ Some o) × (slice_set (slice_set places i o) i p ≡ places)
cleared o [] i p there = absurd (cc there)
cleared o (x ∷ places) zero p there = (refl, let e : p ≡ x = cc there in ap (λ (q : Option Id). q ∷ places) e)
cleared o (x ∷ places) (suc i) p there = let rest = cleared o places i p there in (rest.0, ap (λ (qs : List (Option Id)). x ∷ qs) rest.1)

pub clear-times : (x id : Id) (places : List (Option Id)) (i : ℕ) → slice_get places i ≡ Some (Some id) → times x (ids_out (slice_set places i None)) + cond (is_same_id id x) 1 0 ≡ times x (ids_out places)
clear-times x id places i there = let c = cleared None places i (Some id) there in sym (put-times x id (slice_set places i None) i c.0) ∙ ap (λ (qs : List (Option Id)). times x (ids_out qs)) c.1

pub clear-length : (id : Id) (places : List (Option Id)) (i : ℕ) → slice_get places i ≡ Some (Some id) → length (ids_out (slice_set places i None)) + 1 ≡ length (ids_out places)
clear-length id places i there = let c = cleared None places i (Some id) there in sym (put-length id (slice_set places i None) i c.0) ∙ ap (λ (qs : List (Option Id)). length (ids_out qs)) c.1

-- a job at a place is one of those that are out
pub there-out : (id : Id) (places : List (Option Id)) (i : ℕ) → slice_get places i ≡ Some (Some id) → times id (ids_out places) ≡ times id (ids_out (slice_set places i None)) + 1
there-out id places i there = let less = rw (same_id-self id) at (clear-times id id places i there) in sym less

-- a place that has an id
of-id : (id : Id) (o : Option Id) → is_of id o ≡ true → o ≡ Some id
of-id id None h = absurd (cc h)
of-id id (Some other) h = ap Some (sym (same_id-equal id other h))

-- the first place found for a job has it, and if there is none, the job isn't out
pub found-there : (id : Id) (places : List (Option Id)) (i : ℕ) → position (is_of id) places ≡ Some i → slice_get places i ≡ Some (Some id)
found-there id places i h =
    let first = position-Some (is_of id) places i None h in
    slice_get-get_or places i None first.0 ∙ ap Some (of-id id (get_or places i None) first.1)

nowhere-from : (id : Id) (places : List (Option Id)) (n : ℕ) → position_from (is_of id) n places ≡ None → is_among id (ids_out places) ≡ false
nowhere-from id [] n h = refl
nowhere-from id (None ∷ places) n h = nowhere-from id places (n + 1) h
nowhere-from id (Some y ∷ places) n h = grind (arith, h, nowhere-from id places (n + 1), cases_Bool (is_same_id id y))

pub nowhere-out : (id : Id) (places : List (Option Id)) → position (is_of id) places ≡ None → is_among id (ids_out places) ≡ false
nowhere-out id places h = nowhere-from id places 0 (sym (position_from-zero (is_of id) places) ∙ h)

-- the free places stay free if another place changes
pub free-kept : (o : Option Id) (places : List (Option Id)) (i : ℕ) (free : List ℕ) → All (λ other. other ≢ i) free → AreFree places free → AreFree (slice_set places i o) free
free-kept o places i [] others are = are
free-kept o places i (p ∷ free) others are =
    (slice_get-set_other places i p o (others 0 p (omega arith)) ∙ are.0, are.1, free-kept o places i free (λ k d within. others (suc k) d (omega (arith, within))) are.2)

-- a place with a job isn't one of the free places
pub busy-others : (id : Id) (places : List (Option Id)) (i : ℕ) (free : List ℕ) → slice_get places i ≡ Some (Some id) → AreFree places free → All (λ other. other ≢ i) free
busy-others id places i [] there are k d within = absurd (omega (arith, within))
busy-others id places i (p ∷ free) there are zero d within = λ same. absurd (cc (are.0, there, same))
busy-others id places i (p ∷ free) there are (suc k) d within = busy-others id places i free there are.2 k d (omega (arith, within))

-- the place of a job that is no longer out is one of them
pub free-more : (id : Id) (places : List (Option Id)) (i : ℕ) (free : List ℕ) → slice_get places i ≡ Some (Some id) → AreFree places free → AreFree (slice_set places i None) (i ∷ free)
free-more id places i free there are = let others = busy-others id places i free there are in ((cleared None places i (Some id) there).0, others, free-kept None places i free others are)

-- each place is free if there are no jobs
pub free-at : (count i : ℕ) → i < count → slice_get {X = Option Id} (replicate count None) i ≡ Some None
free-at zero i within = absurd (omega (arith, within))
free-at (suc count) zero within = refl
free-at (suc count) (suc i) within = free-at count i (omega (arith, within))

pub none-out : (count : ℕ) → ids_out (replicate count None) ≡ []
none-out zero = refl
none-out (suc count) = none-out count

-- the law of a job that isn't found, under a name that code can cite
pub ruleset unfound = (nowhere-out)

-- how many jobs are out after each change
pub ruleset places = (put-length, clear-length, none-out, length-set, length-replicate)
