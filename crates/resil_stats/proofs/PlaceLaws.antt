-- What is made of the events at their places, with one more event, and the places of finishes in a legal history: no job is finished before it starts.
use Rattle.std.proofs.Common.{◌≡◌, ◌<◌, ◌+◌, ◌∷◌, [], ◌++◌, ◌∙◌, inl, inr, ℕ, true, false, List, Option, Some, None, drop, filter_map, get_or, length, take, refl, sym, ap, subst, arith, append-nil, append_assoc}
use Rattle.std.specs.List.{cons_option, enumerate_from, position_or_len}
use Rattle.std.proofs.lemmas.Bool.{cases_Bool}
use Rattle.std.proofs.lemmas.Grind.{common_steps}
use Rattle.std.proofs.lemmas.List.{drop_more, length-take-le, take-append-drop}
use Rattle.std.proofs.lemmas.List.Elements.{filter_map-append}
use Rattle.std.proofs.lemmas.List.Sums.{passes_at_first}
use Rattle.std.proofs.lemmas.Option.{some_pair_parts}
use Rattle.resil_rule.specs.Limits.{Sizes}
use Rattle.resil_rule.specs.History.{is_among, times}
use Rattle.resil_rule.specs.declared.event.Id.{Id}
use Rattle.resil_rule.proofs.TimesLaws.{nowhere, somewhere}
use Rattle.resil_jdk.specs.Admission.{AreAllowedAfter, IsAllowed, IsLegal}
use Rattle.resil_jdk.specs.History.{accepted, finished, waiting}
use Rattle.resil_jdk.specs.declared.event.JdkReply.TheVariants as reply
use Rattle.resil_jdk.specs.declared.event.JdkEvent.{JdkEvent}
use Rattle.resil_jdk.specs.declared.event.JdkEvent.TheVariants.{Submit, Take}
use Rattle.resil_jdk.proofs.ConservationLaws.{accepted-parts, front-among, left-parts, line, next-fresh, tracked}
use Rattle.resil_stats.specs.Bars.{finish_place, is_finish_of, start_at}
use Rattle.resil_stats.specs.declared.bars.Start.{Start}

-- ---- Events with their places.

pub placed-push : {X : Type 0} (p : ℕ) (h : List X) (e : X) → enumerate_from p (h ++ e ∷ []) ≡ enumerate_from p h ++ (p + length h, e) ∷ []
placed-push p [] e = grind (arith, common_steps)
placed-push p (x ∷ h) e = grind (arith, common_steps, placed-push (p + 1) h e)

-- what is made of the events up to one: nothing is made of it, or something is
module _ {X A : Type 0} (f : ℕ × X → Option A) (events : List X) (i : ℕ) (d : X) (lt : i < length events) where
  made-more : filter_map f (enumerate_from 1 (take (i + 1) events)) ≡ filter_map f (enumerate_from 1 (take i events)) ++ cons_option (f (i + 1, get_or events i d)) []
  made-more = grind (arith, common_steps, placed-push 1 (take i events) (get_or events i d), filter_map-append f (enumerate_from 1 (take i events)))

  pub made_none : None ≡ f (i + 1, get_or events i d) → filter_map f (enumerate_from 1 (take i events)) ≡ filter_map f (enumerate_from 1 (take (i + 1) events))
  made_none none = sym (made-more ∙ ap (λ o. filter_map f (enumerate_from 1 (take i events)) ++ cons_option o []) (sym none) ∙ append-nil _)

  pub made_one : (x : A) → Some x ≡ f (i + 1, get_or events i d) → filter_map f (enumerate_from 1 (take i events)) ++ x ∷ [] ≡ filter_map f (enumerate_from 1 (take (i + 1) events))
  made_one x one = sym (made-more ∙ ap (λ o. filter_map f (enumerate_from 1 (take i events)) ++ cons_option o []) (sym one))

-- ---- The places of finishes.

-- in a legal history each event is allowed after those before it, which are legal
parts-legal : (limits : Sizes) (before h : List JdkEvent) (e : JdkEvent) (t : List JdkEvent) → AreAllowedAfter limits before (h ++ e ∷ t) → AreAllowedAfter limits before h × IsAllowed limits (before ++ h) e
parts-legal limits before [] e t legal = (tt, rw append-nil legal.0)
parts-legal limits before (x ∷ h) e t legal = let rest = parts-legal limits (before ++ x ∷ []) h e t legal.1 in ((legal.0, rest.0), rw append_assoc at rest.1)

-- a job that is finished nowhere isn't among those finished
unfinished : (h : List JdkEvent) (id : Id) → times id (finished h) ≡ 0 → is_among id (finished h) ≡ false
unfinished h id none = elim (cases_Bool (is_among id (finished h))) [ inl is ↦ let some = somewhere id (finished h) is in absurd (omega (arith, some, none)) | inr not ↦ not ]

module _ (limits : Sizes) (h : List JdkEvent) (legal : IsLegal limits h) (id : Id) where
  -- a job with its caller's next number
  new : is_among id (accepted h) ≡ false → is_among id (finished h) ≡ false
  new fresh =
      let none = nowhere id (accepted h) fresh in let parts = accepted-parts h id in let lefts = left-parts h id in let kept = tracked limits h legal id in
      unfinished h id (omega (arith, none, parts, lefts, kept.2, kept.3))

  -- the job at the front of the queue
  front : is_among id (waiting h) ≡ true → is_among id (finished h) ≡ false
  front among =
      let some = somewhere id (waiting h) among in let whole = line limits h legal id in let parts = accepted-parts h id in let lefts = left-parts h id in
      let kept = tracked limits h legal id in
      unfinished h id (omega (arith, some, whole, parts, lefts, kept.1, kept.2, kept.3))

-- a job that starts isn't finished before
fresh : (limits : Sizes) (h : List JdkEvent) (e : JdkEvent) (id : Id) (start : Start) → IsLegal limits h → IsAllowed limits h e → start_at e ≡ Some (id, start) → is_among id (finished h) ≡ false
fresh limits h (Submit x reply.Core) id start legal allowed is = subst (λ y. is_among y (finished h) ≡ false) (some_pair_parts x id _ start is).0 (new limits h legal x (next-fresh limits h x legal allowed.0))
fresh limits h (Submit x reply.Extra) id start legal allowed is = subst (λ y. is_among y (finished h) ≡ false) (some_pair_parts x id _ start is).0 (new limits h legal x (next-fresh limits h x legal allowed.0))
fresh limits h (Submit x reply.Handed) id start legal allowed is = subst (λ y. is_among y (finished h) ≡ false) (some_pair_parts x id _ start is).0 (new limits h legal x (next-fresh limits h x legal allowed.0))
fresh limits h (Take x) id start legal allowed is = subst (λ y. is_among y (finished h) ≡ false) (some_pair_parts x id _ start is).0 (front limits h legal x (front-among x (waiting h) allowed.0))
fresh limits h e id start legal allowed is = absurd (cc is)

-- an event at which a job starts is no finish
start-no_finish : (e : JdkEvent) (id other : Id) (start : Start) → start_at e ≡ Some (id, start) → is_finish_of other e ≡ false
start-no_finish e id other start is = grind arith

-- a job that isn't finished in the first events is finished later, if at all
finish-after : (h t : List JdkEvent) (id : Id) → is_among id (finished h) ≡ false → position_or_len (is_finish_of id) (h ++ t) ≡ length h + position_or_len (is_finish_of id) t
finish-after [] t id none = omega arith
finish-after (e ∷ h) t id none = let ih = finish-after h t id in grind (arith, common_steps, ih)

-- at the place of a start no job is finished, and the one that starts is finished later
module _ (events : List JdkEvent) (i : ℕ) (d : JdkEvent) (id : Id) (start : Start) (lt : i < length events) (is : start_at (get_or events i d) ≡ Some (id, start)) where
  cut : events ≡ take i events ++ get_or events i d ∷ drop (i + 1) events
  cut = sym (take-append-drop i events) ∙ ap (λ (l : List JdkEvent). take i events ++ l) (drop_more events i d lt)

  long : length (take i events) ≡ i
  long = length-take-le i events (omega (arith, lt))

  pub finish-later : (limits : Sizes) → IsLegal limits events → finish_place events id ≡ i + 1 + 1 + position_or_len (is_finish_of id) (drop (i + 1) events)
  finish-later limits legal =
      let parts = parts-legal limits [] (take i events) (get_or events i d) (drop (i + 1) events) (subst (IsLegal limits) cut legal) in
      let here = start-no_finish (get_or events i d) id id start is in
      let later = finish-after (take i events) (get_or events i d ∷ drop (i + 1) events) id (fresh limits (take i events) (get_or events i d) id start parts.0 parts.1 is) in
      let next : position_or_len (is_finish_of id) (get_or events i d ∷ drop (i + 1) events) ≡ 1 + position_or_len (is_finish_of id) (drop (i + 1) events) = rw here refl in
      let all = ap (position_or_len (is_finish_of id)) cut in
      let few = long in
      omega (arith, all, later, next, few)

  pub finish-elsewhere : (other : Id) → finish_place events other ≡ i + 1 → ⊥
  finish-elsewhere other same =
      let here : position_or_len (is_finish_of other) events ≡ i = omega (arith, same) in
      let passes = passes_at_first (is_finish_of other) events d (omega (arith, here, lt)) in
      absurd (cc (sym (start-no_finish (get_or events i d) id other start is) ∙ rw here at passes))
