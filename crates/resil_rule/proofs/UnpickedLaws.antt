-- The jobs that aren't picked yet, after one more event or one more pick.
use Rattle.std.proofs.Common.{◌≡◌, ◌+◌, ◌∷◌, [], ◌++◌, ◌∙◌, ℕ, zero, suc, List, Option, Some, None, map, drop, slice_get, filter_map, refl, sym, ap, append-nil}
use Rattle.std.proofs.lemmas.List.{drop-drop, drop-map}
use Rattle.std.specs.List.{cons_option}
use Rattle.std.proofs.lemmas.List.Elements.{filter_map-append}
use Rattle.resil_rule.specs.declared.event.Id.{Id}
use Rattle.resil_rule.specs.declared.event.Event.{Event}
use Rattle.resil_rule.specs.History.{started, accepted, waiting, started_id, queued_id, taken_id, accepted_id}

-- what a filter gives of a history with one more event
pub filtered-same : {A : Type 0} (f : Event → Option A) (h : List Event) (e : Event) → f e ≡ None → filter_map f (h ++ e ∷ []) ≡ filter_map f h
filtered-same f h e none = filter_map-append f h (e ∷ []) ∙ ap (λ o. filter_map f h ++ cons_option o []) none ∙ append-nil _

pub filtered-more : {A : Type 0} (f : Event → Option A) (h : List Event) (e : Event) (id : A) → f e ≡ Some id → filter_map f (h ++ e ∷ []) ≡ filter_map f h ++ id ∷ []
filtered-more f h e id some = filter_map-append f h (e ∷ []) ∙ ap (λ o. filter_map f h ++ cons_option o []) some

-- an event that starts no job leaves those that were started
pub started-same : (h : List Event) (e : Event) → started_id e ≡ None → started (h ++ e ∷ []) ≡ started h
started-same h e none = filtered-same started_id h e none

-- an event that neither queues nor takes a job leaves those that wait
pub waiting-same : (h : List Event) (e : Event) → queued_id e ≡ None → taken_id e ≡ None → waiting (h ++ e ∷ []) ≡ waiting h
waiting-same h e no_queued no_taken = rw (filtered-same queued_id h e no_queued, filtered-same taken_id h e no_taken) refl

-- an event that accepts no job leaves those that were accepted
pub accepted-same : (h : List Event) (e : Event) → accepted_id e ≡ None → accepted (h ++ e ∷ []) ≡ accepted h
accepted-same h e none = filtered-same accepted_id h e none

drop-suc : {A : Type 0} (n : ℕ) (xs : List A) → drop (n + 1) xs ≡ drop 1 (drop n xs)
drop-suc n xs = sym (drop-drop 1 n xs)

-- the first item from an index on
slice_get-from : {A : Type 0} (n : ℕ) (xs : List A) → slice_get xs n ≡ slice_get (drop n xs) 0
slice_get-from zero xs = refl
slice_get-from (suc n) [] = refl
slice_get-from (suc n) (x ∷ xs) = slice_get-from n xs

-- a list of jobs whose ids are those from an index on
module _ {B : Type 0} (line : List (Id × B)) (ids : List Id) (n : ℕ) (same : map (λ job. job.0) line ≡ drop n ids) where
  pub line-first : (job : Id × B) (rest : List (Id × B)) → line ≡ job ∷ rest → slice_get ids n ≡ Some job.0
  line-first job rest front = slice_get-from n ids ∙ ap (λ xs. slice_get xs 0) (sym same ∙ ap (map (λ job. job.0)) front)

  -- without the first job
  pub line-next : map (λ job. job.0) (drop 1 line) ≡ drop (n + 1) ids
  line-next = sym (drop-map (λ job. job.0) 1 line) ∙ ap (drop 1) same ∙ sym (drop-suc n ids)

  pub line-none : line ≡ [] → slice_get ids n ≡ None
  line-none empty = slice_get-from n ids ∙ ap (λ xs. slice_get xs 0) (sym same ∙ ap (map (λ job. job.0)) empty)
