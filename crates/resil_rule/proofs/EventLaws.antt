-- What one more event does to the lists and numbers of a history.
use Rattle.std.proofs.Common.{◌≡◌, ◌≤◌, ◌+◌, ◌∷◌, [], ◌++◌, ◌∙◌, ◌||◌, ℕ, Bool, true, false, cond, List, Option, Some, None, length, filter, drop, slice_get, refl, sym, ap, arith, length-append}
use Rattle.std.specs.List.{filter_map}
use Rattle.std.proofs.lemmas.Bool.{or_right}
use Rattle.std.proofs.lemmas.List.Elements.{filter-append, filter_map-append}
use Rattle.std.proofs.lemmas.List.{drop-append-le, drop-drop}
use Rattle.resil_rule.proofs.UnpickedLaws.{filtered-same}
use Rattle.resil_rule.proofs.TimesLaws.{one-if, times-append, times-one, among-times, is_positive}
use Rattle.resil_rule.specs.declared.event.Id.{Id}
use Rattle.resil_rule.specs.declared.event.Event.{Event}
use Rattle.resil_rule.specs.History.{is_same_id, is_among, times, started_id, queued_id, accepted_id, taken_id, finished_id, is_idle_end, is_submit_of, queued, taken, waiting, running, submissions}

-- how many submissions of a caller there are after it
pub submissions-more : (h : List Event) (e : Event) (caller : ℕ) → length (submissions (h ++ e ∷ []) caller) ≡ length (submissions h caller) + cond (is_submit_of caller e) 1 0
submissions-more h e caller =
    ap length (filter-append (is_submit_of caller) h (e ∷ [])) ∙ length-append (submissions h caller) (filter (is_submit_of caller) (e ∷ []))
    ∙ ap (λ n. length (submissions h caller) + n) (one-if (is_submit_of caller e) e)

-- how many ids a filter gives, and how many times an id is among them
module _ (f : Event → Option Id) (h : List Event) (e : Event) where
  pub count-more : length (filter_map f (h ++ e ∷ [])) ≡ length (filter_map f h) + length (filter_map f (e ∷ []))
  count-more = ap length (filter_map-append f h (e ∷ [])) ∙ length-append (filter_map f h) (filter_map f (e ∷ []))

  pub times-more : (x : Id) → times x (filter_map f (h ++ e ∷ [])) ≡ times x (filter_map f h) + times x (filter_map f (e ∷ []))
  times-more x = ap (times x) (filter_map-append f h (e ∷ [])) ∙ times-append x (filter_map f h) (filter_map f (e ∷ []))

-- how many workers ended
pub ends-more : (h : List Event) (e : Event) → length (filter is_idle_end (h ++ e ∷ [])) ≡ length (filter is_idle_end h) + length (filter is_idle_end (e ∷ []))
ends-more h e = ap length (filter-append is_idle_end h (e ∷ [])) ∙ length-append (filter is_idle_end h) (filter is_idle_end (e ∷ []))

-- the jobs that wait: a job that is queued comes last, and jobs leave at the front as they are taken
pub waiting-more : (h : List Event) (e : Event) → length (taken h) ≤ length (queued h) → waiting (h ++ e ∷ []) ≡ drop (length (taken (e ∷ []))) (waiting h ++ queued (e ∷ []))
waiting-more h e few =
    ap (λ (n : ℕ). drop n (queued (h ++ e ∷ []))) (count-more taken_id h e)
    ∙ ap (drop (length (taken h) + length (taken (e ∷ [])))) (filter_map-append queued_id h (e ∷ []))
    ∙ sym (drop-drop (length (taken (e ∷ []))) (length (taken h)) (queued h ++ queued (e ∷ [])))
    ∙ ap (drop (length (taken (e ∷ [])))) (drop-append-le (length (taken h)) (queued h) (queued (e ∷ [])) few)

-- an event that adds to no list, and at most to the submissions
module _ (h : List Event) (e : Event) (s : started_id e ≡ None) (q : queued_id e ≡ None) (a : accepted_id e ≡ None) (t : taken_id e ≡ None) (f : finished_id e ≡ None) where
  pub running-quiet : running (h ++ e ∷ []) ≡ running h
  running-quiet = rw (filtered-same started_id h e s, filtered-same taken_id h e t, filtered-same finished_id h e f) refl

pub front-is : {A : Type 0} (xs : List A) (x : A) → slice_get xs 0 ≡ Some x → xs ≡ x ∷ drop 1 xs
front-is [] x h = absurd (cc h)
front-is (y ∷ xs) x h = cc h

-- the front of the queue counts once more than in the rest
pub times-front : (h : List Event) (id : Id) → slice_get (waiting h) 0 ≡ Some id → (x : Id) → times x (waiting h) ≡ times x (drop 1 (waiting h)) + cond (is_same_id x id) 1 0
times-front h id front x =
    let split = ap (times x) (front-is (waiting h) id front) ∙ times-append x (id ∷ []) (drop 1 (waiting h)) in
    let one = times-one x id in
    omega (arith, split, one)

-- an id that is nowhere in a list isn't among its ids
pub not-among : (x : Id) (ids : List Id) → times x ids ≡ 0 → is_among x ids ≡ false
not-among x ids none = among-times x ids ∙ ap is_positive none

pub or-of : (a b : Bool) → b ≡ true → (a || b) ≡ true
or-of a b h = or_right a b h
