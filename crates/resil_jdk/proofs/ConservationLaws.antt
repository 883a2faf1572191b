-- Each accepted job is new, and waits, runs, is finished or was removed.
use Rattle.std.proofs.Common.{◌≡◌, ◌≤◌, ◌+◌, ◌∷◌, [], ◌++◌, ◌∙◌, ◌⊎◌, inl, inr, ◌||◌, true, false, not, cond, List, Option, Some, None, length, drop, slice_get, refl, sym, ap, arith, length-append}
use Rattle.std.specs.List.{cons_option}
use Rattle.std.proofs.Math.Bool.{or-false}
use Rattle.std.proofs.lemmas.Bool.{cases_Bool, or_cases, false_from_ne_true}
use Rattle.std.proofs.lemmas.Grind.{common_steps}
use Rattle.std.proofs.lemmas.List.Elements.{filter_map-append}
use Rattle.std.proofs.lemmas.List.Folds.{list_any-append}
use Rattle.resil_rule.specs.Limits.{Sizes}
use Rattle.resil_rule.specs.History.{is_same_id, is_among, times}
use Rattle.resil_rule.specs.declared.event.Id.{Id}
use Rattle.resil_rule.proofs.IdLaws.{same_id-equal, same_id-self}
use Rattle.resil_rule.proofs.TimesLaws.{times-append, times-one, times-filter, times-left, somewhere, nowhere, same-length}
use Rattle.resil_rule.proofs.EventLaws.{front-is}
use Rattle.resil_jdk.specs.declared.event.JdkReply.{JdkReply}
use Rattle.resil_jdk.specs.declared.event.JdkReply.TheVariants.{Core, First, Queued, Handed, Extra}
use Rattle.resil_jdk.specs.declared.event.JdkEvent.{JdkEvent}
use Rattle.resil_jdk.specs.declared.event.JdkEvent.TheVariants.{Submit, Take, Finish, Remove}
use Rattle.resil_jdk.specs.History.{run_id, queued_id, accepted_id, taken_id, left_id, finished_id, is_submit_of, run_at_once, queued, accepted, taken, removed, left, finished, waiting, running, submissions, next_number}
use Rattle.resil_jdk.specs.Admission.{IsAllowed, IsLegal, IsConserved, JobsConserved}
use Rattle.resil_jdk.proofs.HistoryLaws.{submissions-more, times-more, legal-push, holds-legal}

-- ---- an id that is next is new
among-either : (id : Id) (xs ys : List Id) → is_among id (xs ++ ys) ≡ true → (is_among id xs ≡ true) ⊎ (is_among id ys ≡ true)
among-either id xs ys h = or_cases _ _ (sym (list_any-append (is_same_id id) xs ys) ∙ h)

pub only-one : (id x : Id) → is_among id (x ∷ []) ≡ true → id ≡ x
only-one id x h = same_id-equal id x (sym (or-false (is_same_id id x)) ∙ h)

own-submit : (id : Id) (reply : JdkReply) → is_submit_of id.caller (Submit id reply) ≡ true
own-submit id reply = grind (arith, common_steps)

new-number : (limits : Sizes) (h : List JdkEvent) (e : JdkEvent) (id : Id) → IsAllowed limits h e → is_among id (accepted (e ∷ [])) ≡ true
    → (id.number ≡ next_number h id.caller) × (is_submit_of id.caller e ≡ true)
new-number limits h (Submit x Core) id allowed among = let e = only-one id x among in rw e (allowed.0, own-submit x Core)
new-number limits h (Submit x First) id allowed among = let e = only-one id x among in rw e (allowed.0, own-submit x First)
new-number limits h (Submit x Queued) id allowed among = let e = only-one id x among in rw e (allowed.0, own-submit x Queued)
new-number limits h (Submit x Handed) id allowed among = let e = only-one id x among in rw e (allowed.0, own-submit x Handed)
new-number limits h (Submit x Extra) id allowed among = let e = only-one id x among in rw e (allowed.0, own-submit x Extra)
new-number limits h e id allowed among = absurd (cc among)

-- each accepted job has a number that its caller has counted
abbrev AreCounted : List JdkEvent → Type 0
AreCounted h = (id : Id) → is_among id (accepted h) ≡ true → id.number ≤ length (submissions h id.caller)

counted-push : (limits : Sizes) (h : List JdkEvent) (e : JdkEvent) → AreCounted h → IsAllowed limits h e → AreCounted (h ++ e ∷ [])
counted-push limits h e counted allowed id among =
    let push = submissions-more h e id.caller in
    elim (among-either id (accepted h) (accepted (e ∷ [])) (rw filter_map-append at among)) [
      | inl old ↦ let le = counted id old in omega (arith, push, le)
      | inr new ↦ let told = new-number limits h e id allowed new in let one = rw told.1 at push in omega (arith, one, told.0)
    ]

pub next-fresh : (limits : Sizes) (h : List JdkEvent) (id : Id) → IsLegal limits h → id.number ≡ next_number h id.caller → is_among id (accepted h) ≡ false
next-fresh limits h id legal next = false_from_ne_true (is_among id (accepted h))
    (λ among. let le = holds-legal limits AreCounted (counted-push limits) h (λ id among. absurd (cc among)) legal id among in omega (arith, le, next))

-- ---- sums
times-cons : (x id : Id) (ids : List Id) → times x (id ∷ ids) ≡ times x (id ∷ []) + times x ids
times-cons x id ids = times-append x (id ∷ []) ids

one-most : (x : Id) (o : Option Id) → times x (cons_option o []) ≤ 1
one-most x None = omega arith
one-most x (Some id) = grind (arith, times-one x id, cases_Bool (is_same_id x id))

-- each accepted job was run at once or queued
pub accepted-parts : (h : List JdkEvent) (x : Id) → times x (accepted h) ≡ times x (run_at_once h) + times x (queued h)
accepted-parts [] x = refl
accepted-parts (Submit id Core ∷ h) x = let rest = accepted-parts h x in let a = times-cons x id (run_at_once h) in let b = times-cons x id (accepted h) in omega (arith, rest, a, b)
accepted-parts (Submit id First ∷ h) x = let rest = accepted-parts h x in let a = times-cons x id (queued h) in let b = times-cons x id (accepted h) in omega (arith, rest, a, b)
accepted-parts (Submit id Queued ∷ h) x = let rest = accepted-parts h x in let a = times-cons x id (queued h) in let b = times-cons x id (accepted h) in omega (arith, rest, a, b)
accepted-parts (Submit id Handed ∷ h) x = let rest = accepted-parts h x in let a = times-cons x id (run_at_once h) in let b = times-cons x id (accepted h) in omega (arith, rest, a, b)
accepted-parts (Submit id Extra ∷ h) x = let rest = accepted-parts h x in let a = times-cons x id (run_at_once h) in let b = times-cons x id (accepted h) in omega (arith, rest, a, b)
accepted-parts (e ∷ h) x = accepted-parts h x

-- each that left the queue was taken or removed
pub left-parts : (h : List JdkEvent) (x : Id) → times x (left h) ≡ times x (taken h) + times x (removed h)
left-parts [] x = refl
left-parts (Take id ∷ h) x = let rest = left-parts h x in let a = times-cons x id (taken h) in let b = times-cons x id (left h) in omega (arith, rest, a, b)
left-parts (Remove id ∷ h) x = let rest = left-parts h x in let a = times-cons x id (removed h) in let b = times-cons x id (left h) in omega (arith, rest, a, b)
left-parts (e ∷ h) x = left-parts h x

-- how often an id waits
waits : (h : List JdkEvent) (x : Id) → times x (waiting h) ≡ cond (is_among x (left h)) 0 (times x (queued h))
waits h x = grind (arith, times-filter (λ y. not (is_among y (left h))) x (queued h), cases_Bool (is_among x (left h)))

-- a job that waits was queued, and hasn't left
waits-queued : (h : List JdkEvent) (x : Id) → is_among x (waiting h) ≡ true → (is_among x (left h) ≡ false) × (1 ≤ times x (queued h))
waits-queued h x among =
    let some = somewhere x (waiting h) among in let w = waits h x in
    elim (cases_Bool (is_among x (left h))) [
      | inl gone ↦ let none = w ∙ ap (λ b. cond b 0 (times x (queued h))) gone in absurd (omega (arith, some, none))
      | inr here ↦ let all = w ∙ ap (λ b. cond b 0 (times x (queued h))) here in (here, omega (arith, some, all))
    ]

pub front-among : (id : Id) (ids : List Id) → slice_get ids 0 ≡ Some id → is_among id ids ≡ true
front-among id ids front = ap (is_among id) (front-is ids id front) ∙ ap (λ b. b || is_among id (drop 1 ids)) (same_id-self id)

module _ (limits : Sizes) where
  -- ---- what is kept by each event, of a job
  module _ (x : Id) where
    accepted-few : (h : List JdkEvent) (e : JdkEvent) → IsLegal limits h → times x (accepted h) ≤ 1 → IsAllowed limits h e → times x (accepted h) + times x (accepted (e ∷ [])) ≤ 1
    accepted-few h e legal once allowed = elim (cases_Bool (is_among x (accepted (e ∷ [])))) [
      | inl new ↦
          let none = nowhere x (accepted h) (next-fresh limits h x legal (new-number limits h e x allowed new).0) in let one = one-most x (accepted_id e) in
          omega (arith, none, one)
      | inr old ↦ let none = nowhere x (accepted (e ∷ [])) old in omega (arith, once, none)
    ]

    -- a job that leaves the queue was in it
    leaves : (h : List JdkEvent) (id : Id) → times x (left h) ≤ times x (queued h) → is_among id (waiting h) ≡ true → times x (left h) + times x (id ∷ []) ≤ times x (queued h)
    leaves h id lined among =
        let one = times-one x id in
        elim (cases_Bool (is_same_id x id)) [
          | inl same ↦
              let here = waits-queued h x (ap (λ i. is_among i (waiting h)) (same_id-equal x id same) ∙ among) in let none = nowhere x (left h) here.0 in
              let is_one = one ∙ ap (λ b. cond b 1 0) same in omega (arith, none, here.1, is_one)
          | inr other ↦ let none = one ∙ ap (λ b. cond b 1 0) other in omega (arith, lined, none)
        ]

    left-few : (h : List JdkEvent) (e : JdkEvent) → times x (left h) ≤ times x (queued h) → IsAllowed limits h e
        → times x (left h) + times x (left (e ∷ [])) ≤ times x (queued h) + times x (queued (e ∷ []))
    left-few h (Take id) lined allowed = let l = leaves h id lined (front-among id (waiting h) allowed.0) in omega (arith, l)
    left-few h (Remove id) lined allowed = let l = leaves h id lined allowed in omega (arith, l)
    left-few h e lined allowed = omega (arith, lined)

    -- a job that is finished ran
    finished-few : (h : List JdkEvent) (e : JdkEvent) → times x (finished h) ≤ times x (run_at_once h) + times x (taken h) → IsAllowed limits h e
        → times x (finished h) + times x (finished (e ∷ [])) ≤ times x (run_at_once h) + times x (taken h) + times x (run_at_once (e ∷ [])) + times x (taken (e ∷ []))
    finished-few h (Finish id) ran allowed =
        let one = times-one x id in let rest = times-left (finished h) (run_at_once h) (taken h) x in
        elim (cases_Bool (is_same_id x id)) [
          | inl same ↦
              let some : 1 ≤ times x (running h) = somewhere x (running h) (ap (λ i. is_among i (running h)) (same_id-equal x id same) ∙ allowed) in
              grind (arith, one, same, some, rest, nowhere x (finished h), cases_Bool (is_among x (finished h)))
          | inr other ↦ let none = one ∙ ap (λ b. cond b 1 0) other in omega (arith, ran, none)
        ]
    finished-few h e ran allowed = omega (arith, ran)

    abbrev IsTracked : List JdkEvent → Type 0
    IsTracked h = IsLegal limits h × (times x (accepted h) ≤ 1) × (times x (left h) ≤ times x (queued h)) × (times x (finished h) ≤ times x (run_at_once h) + times x (taken h))

    tracked-push : (h : List JdkEvent) (e : JdkEvent) → IsTracked h → IsAllowed limits h e → IsTracked (h ++ e ∷ [])
    tracked-push h e (legal, once, lined, ran) allowed =
        let a = times-more accepted_id h e x in let s = times-more run_id h e x in let q = times-more queued_id h e x in let t = times-more taken_id h e x in
        let l = times-more left_id h e x in let f = times-more finished_id h e x in let few = accepted-few h e legal once allowed in let line = left-few h e lined allowed in
        let ends = finished-few h e ran allowed in (legal-push limits h e legal allowed, omega (arith, a, few), omega (arith, l, q, line), omega (arith, s, t, f, ends))

  -- ---- what a legal history says
  module _ (h : List JdkEvent) (legal : IsLegal limits h) where
    pub tracked : (x : Id) → IsTracked x h
    tracked x = holds-legal limits (IsTracked x) (tracked-push x) h (tt, omega arith, omega arith, omega arith) legal

    -- each job that was queued left the queue or waits
    pub line : (x : Id) → times x (queued h) ≡ times x (left h) + times x (waiting h)
    line x =
        let k = tracked x in let parts = accepted-parts h x in let w = waits h x in
        elim (cases_Bool (is_among x (left h))) [
          | inl gone ↦ let none = w ∙ ap (λ b. cond b 0 (times x (queued h))) gone in let some = somewhere x (left h) gone in omega (arith, none, some, k.1, k.2, parts)
          | inr here ↦ let all = w ∙ ap (λ b. cond b 0 (times x (queued h))) here in let none = nowhere x (left h) here in omega (arith, all, none)
        ]

    -- each job that came to a worker runs or is finished
    pub balance : (x : Id) → times x (running h) + times x (finished h) ≡ times x (run_at_once h) + times x (taken h)
    balance x =
        let k = tracked x in let parts = accepted-parts h x in let lefts = left-parts h x in let rest = times-left (finished h) (run_at_once h) (taken h) x in
        grind (arith, parts, lefts, rest, k.1, k.2, k.3, somewhere x (finished h), nowhere x (finished h), cases_Bool (is_among x (finished h)))

    pub as-many : length (running h) + length (finished h) ≡ length (run_at_once h) + length (taken h)
    as-many =
        let same = same-length (running h ++ finished h) (run_at_once h ++ taken h) (λ x. times-append x (running h) (finished h) ∙ balance x ∙ sym (times-append x (run_at_once h) (taken h))) in
        sym (length-append (running h) (finished h)) ∙ same ∙ length-append (run_at_once h) (taken h)

    conserved : (id : Id) → IsConserved h id
    conserved id =
        let k = tracked id in let parts = accepted-parts h id in let lefts = left-parts h id in let l = line id in let all = balance id in
        record { sum = omega (arith, parts, lefts, l, all); once = k.1 }

pub jobs-conserved : JobsConserved
jobs-conserved limits h legal id = conserved limits h legal id
