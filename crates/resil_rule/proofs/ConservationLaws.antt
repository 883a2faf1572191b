-- In a legal history each accepted job waits, runs or is finished. It is in exactly one of these states, once.
use Rattle.std.proofs.Common.{◌≡◌, ◌≤◌, ◌+◌, ◌∷◌, [], ◌++◌, ◌∙◌, ℕ, true, false, cond, inl, inr, List, Option, Some, None, length, take, slice_get, refl, sym, ap, arith, length-append}
use Rattle.std.specs.List.{cons_option}
use Rattle.std.proofs.lemmas.Bool.{cases_Bool}
use Rattle.resil_rule.specs.Limits.{Sizes}
use Rattle.resil_rule.specs.Admission.{IsAllowed, IsLegal, IsConserved, JobsConserved}
use Rattle.resil_rule.specs.History.{is_same_id, is_among, times, started, queued, accepted, taken, finished, unfinished, running, waiting, next_number, started_id, accepted_id, taken_id, finished_id}
use Rattle.resil_rule.specs.declared.event.Id.{Id}
use Rattle.resil_rule.specs.declared.event.Reply.TheVariants.{Core, Queued, Extra}
use Rattle.resil_rule.specs.declared.event.Event.{Event}
use Rattle.resil_rule.specs.declared.event.Event.TheVariants.{Submit, Finish}
use Rattle.resil_rule.proofs.IdLaws.{same_id-equal, same_id-self, in_flight-running}
use Rattle.resil_rule.proofs.TimesLaws.{times-append, times-one, times-left, among-some, somewhere, nowhere, same-length}
use Rattle.resil_rule.proofs.LegalLaws.{legal-push}
use Rattle.resil_rule.proofs.FreshLaws.{holds-legal, new-number, next-fresh, queue-line}
use Rattle.resil_rule.proofs.EventLaws.{not-among, times-front, times-more}

pub times-cons : (x id : Id) (ids : List Id) → times x (id ∷ ids) ≡ times x (id ∷ []) + times x ids
times-cons x id ids = times-append x (id ∷ []) ids

one-most : (x : Id) (o : Option Id) → times x (cons_option o []) ≤ 1
one-most x None = omega arith
one-most x (Some id) = grind (arith, times-one x id, cases_Bool (is_same_id x id))

-- each accepted job was started or queued
pub accepted-parts : (h : List Event) (x : Id) → times x (accepted h) ≡ times x (started h) + times x (queued h)
accepted-parts [] x = refl
accepted-parts (Submit id Core ∷ h) x = let rest = accepted-parts h x in let a = times-cons x id (started h) in let b = times-cons x id (accepted h) in omega (arith, rest, a, b)
accepted-parts (Submit id Queued ∷ h) x = let rest = accepted-parts h x in let a = times-cons x id (queued h) in let b = times-cons x id (accepted h) in omega (arith, rest, a, b)
accepted-parts (Submit id Extra ∷ h) x = let rest = accepted-parts h x in let a = times-cons x id (started h) in let b = times-cons x id (accepted h) in omega (arith, rest, a, b)
accepted-parts (e ∷ h) x = accepted-parts h x

-- What is kept about an id: it was accepted at most once, left the queue as often as it was taken, and wasn't finished more
-- often than it got a worker.
pub record IsTracked (h : List Event) (x : Id) : Type 0 where
  pub once : times x (accepted h) ≤ 1
  pub lined : times x (queued h) ≡ times x (taken h) + times x (waiting h)
  pub ran : times x (finished h) ≤ times x (started h) + times x (taken h)

module _ (limits : Sizes) where
  module _ (x : Id) where
    accepted-few : (h : List Event) (e : Event) → IsLegal limits h → times x (accepted h) ≤ 1 → IsAllowed limits h e → times x (accepted h) + times x (accepted (e ∷ [])) ≤ 1
    accepted-few h e legal once allowed = elim (cases_Bool (is_among x (accepted (e ∷ [])))) [
      | inl new ↦
          let none = nowhere x (accepted h) (next-fresh limits h x legal (new-number limits h e x allowed new).0) in
          let one = one-most x (accepted_id e) in
          omega (arith, none, one)
      | inr old ↦ let none = nowhere x (accepted (e ∷ [])) old in omega (arith, once, none)
    ]

    finished-few : (h : List Event) (e : Event) → times x (finished h) ≤ times x (started h) + times x (taken h) → IsAllowed limits h e
        → times x (finished h) + times x (finished (e ∷ [])) ≤ times x (started h) + times x (taken h) + times x (started (e ∷ [])) + times x (taken (e ∷ []))
    finished-few h (Finish id) ran allowed =
        let one = times-one x id in
        let left = times-left (finished h) (started h) (taken h) x in
        elim (cases_Bool (is_same_id x id)) [
          -- a job that runs was started or taken, and isn't finished
          | inl same ↦
              let some : 1 ≤ times x (running h) = somewhere x (running h) (ap (λ i. is_among i (running h)) (same_id-equal x id same) ∙ allowed) in
              grind (arith, one, same, some, left, nowhere x (finished h), cases_Bool (is_among x (finished h)))
          | inr other ↦ let none = one ∙ ap (λ b. cond b 1 0) other in omega (arith, ran, none)
        ]
    finished-few h e ran allowed = omega (arith, ran)

    -- what each event keeps
    abbrev IsKept : List Event → Type 0
    IsKept h = IsLegal limits h × (times x (accepted h) ≤ 1) × (times x (finished h) ≤ times x (started h) + times x (taken h))

    kept-push : (h : List Event) (e : Event) → IsKept h → IsAllowed limits h e → IsKept (h ++ e ∷ [])
    kept-push h e (legal, once, ran) allowed =
        let a = times-more accepted_id h e x in
        let s = times-more started_id h e x in
        let t = times-more taken_id h e x in
        let f = times-more finished_id h e x in
        let few = accepted-few h e legal once allowed in
        let ends = finished-few h e ran allowed in
        (legal-push limits h e legal allowed, omega (arith, a, few), omega (arith, s, t, f, ends))

  -- each fact below is about a legal history
  module _ (h : List Event) (legal : IsLegal limits h) where
    pub tracked : (x : Id) → IsTracked h x
    tracked x =
        let kept = holds-legal limits (IsKept x) (kept-push x) h (tt, omega arith, omega arith) legal in
        record { once = kept.1; lined = ap (times x) (queue-line limits h legal) ∙ times-append x (taken h) (waiting h); ran = kept.2 }

    -- each job that was started or taken runs or is finished
    pub balance : (x : Id) → times x (running h) + times x (finished h) ≡ times x (started h) + times x (taken h)
    balance x =
        let k = tracked x in
        let parts = accepted-parts h x in
        let left = times-left (finished h) (started h) (taken h) x in
        grind (arith, parts, left, k.once, k.lined, k.ran, somewhere x (finished h), nowhere x (finished h), cases_Bool (is_among x (finished h)))

    pub as-many : length (running h) + length (finished h) ≡ length (started h) + length (taken h)
    as-many =
        let same = same-length (running h ++ finished h) (started h ++ taken h) (λ x. times-append x (running h) (finished h) ∙ balance x ∙ sym (times-append x (started h) (taken h))) in
        sym (length-append (running h) (finished h)) ∙ same ∙ length-append (started h) (taken h)

    pub conserved : (id : Id) → IsConserved h id
    conserved id =
        let k = tracked id in
        let parts = accepted-parts h id in
        let all = balance id in
        record { sum = omega (arith, parts, all, k.lined); once = k.once }

    -- a caller's next job isn't finished, nor is the one at the front of the queue
    pub new-unfinished : (id : Id) → id.number ≡ next_number h id.caller → is_among id (finished h) ≡ false
    new-unfinished id next =
        let c = conserved id in
        let none = nowhere id (accepted h) (next-fresh limits h id legal next) in
        not-among id (finished h) (omega (arith, c.sum, none))

    pub front-unfinished : (id : Id) → slice_get (waiting h) 0 ≡ Some id → is_among id (finished h) ≡ false
    front-unfinished id front =
        let c = conserved id in
        let one = rw (same_id-self id) at (times-front h id front id) in
        not-among id (finished h) (omega (arith, c.sum, c.once, one))

    -- a job that is out was accepted
    pub in_flight-accepted : (picked : ℕ) (id : Id) → is_among id (unfinished h (take picked (started h) ++ taken h)) ≡ true → is_among id (accepted h) ≡ true
    in_flight-accepted picked id out =
        let some = somewhere id (running h) (in_flight-running h picked id out) in
        let c = conserved id in
        among-some id (accepted h) (omega (arith, some, c.sum))

pub jobs-conserved : JobsConserved
jobs-conserved limits h legal id = conserved limits h legal id
