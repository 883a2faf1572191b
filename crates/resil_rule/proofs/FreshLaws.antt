-- The ids of a legal history: a caller's next number is new, and no more jobs were taken than were queued.
use Rattle.std.proofs.Common.{◌≡◌, ◌≤◌, ◌⊎◌, inl, inr, ◌∷◌, [], ◌++◌, ◌∙◌, true, false, List, length, refl, sym, ap, arith, append_assoc, append-nil, length-append, drop}
use Rattle.std.proofs.Math.Bool.{or-false}
use Rattle.std.proofs.lemmas.Bool.{or_cases, false_from_ne_true}
use Rattle.std.proofs.lemmas.Grind.{common_steps}
use Rattle.std.proofs.lemmas.List.Elements.{filter_map-append}
use Rattle.std.proofs.lemmas.List.Folds.{list_any-append}
use Rattle.resil_rule.proofs.IdLaws.{same_id-equal}
use Rattle.resil_rule.proofs.EventLaws.{front-is, waiting-more, submissions-more}
use Rattle.resil_rule.specs.Limits.{Sizes}
use Rattle.resil_rule.specs.Admission.{IsAllowed, AreAllowedAfter, IsLegal}
use Rattle.resil_rule.specs.History.{is_among, is_same_id, is_submit_of, queued_id, taken_id, queued, taken, accepted, waiting, submissions, next_number}
use Rattle.resil_rule.specs.declared.event.Id.{Id}
use Rattle.resil_rule.specs.declared.event.Reply.{Reply}
use Rattle.resil_rule.specs.declared.event.Reply.TheVariants.{Core, Queued, Extra}
use Rattle.resil_rule.specs.declared.event.Event.{Event}
use Rattle.resil_rule.specs.declared.event.Event.TheVariants.{Submit, Take}

module _ (limits : Sizes) (P : List Event → Type 0) (step : (h : List Event) (e : Event) → P h → IsAllowed limits h e → P (h ++ e ∷ [])) where
  holds-after : (before events : List Event) → P before → AreAllowedAfter limits before events → P (before ++ events)
  holds-after before [] p legal = rw append-nil p
  holds-after before (e ∷ events) p legal = rw append_assoc at (holds-after (before ++ e ∷ []) events (step before e p legal.0) legal.1)

  -- what holds of the empty history, and is kept by each allowed event, holds of every legal history
  pub holds-legal : (h : List Event) → P [] → IsLegal limits h → P h
  holds-legal h p legal = holds-after [] h p legal

-- an id among two lists is in one of them
among-either : (id : Id) (xs ys : List Id) → is_among id (xs ++ ys) ≡ true → (is_among id xs ≡ true) ⊎ (is_among id ys ≡ true)
among-either id xs ys h = or_cases _ _ (sym (list_any-append (is_same_id id) xs ys) ∙ h)

only-one : (id x : Id) → is_among id (x ∷ []) ≡ true → id ≡ x
only-one id x h = same_id-equal id x (sym (or-false (is_same_id id x)) ∙ h)

own-submit : (id : Id) (reply : Reply) → is_submit_of id.caller (Submit id reply) ≡ true
own-submit id reply = grind (arith, common_steps)

-- an accepted job's number is its caller's next one, and its submission is that caller's
pub new-number : (limits : Sizes) (h : List Event) (e : Event) (id : Id) → IsAllowed limits h e → is_among id (accepted (e ∷ [])) ≡ true
    → (id.number ≡ next_number h id.caller) × (is_submit_of id.caller e ≡ true)
new-number limits h (Submit x Core) id allowed among = let e = only-one id x among in rw e (allowed.0, own-submit x Core)
new-number limits h (Submit x Queued) id allowed among = let e = only-one id x among in rw e (allowed.0, own-submit x Queued)
new-number limits h (Submit x Extra) id allowed among = let e = only-one id x among in rw e (allowed.0, own-submit x Extra)
new-number limits h e id allowed among = absurd (cc among)

-- no accepted job's number is greater than the number of its caller's submissions
abbrev AreCounted : List Event → Type 0
AreCounted h = (id : Id) → is_among id (accepted h) ≡ true → id.number ≤ length (submissions h id.caller)

counted-push : (limits : Sizes) (h : List Event) (e : Event) → AreCounted h → IsAllowed limits h e → AreCounted (h ++ e ∷ [])
counted-push limits h e counted allowed id among =
    let push = submissions-more h e id.caller in
    elim (among-either id (accepted h) (accepted (e ∷ [])) (rw filter_map-append at among)) [
      | inl old ↦ let le = counted id old in omega (arith, push, le)
      | inr new ↦ let told = new-number limits h e id allowed new in let one = rw told.1 at push in omega (arith, one, told.0)
    ]

-- no accepted job has a caller's next number
pub next-fresh : (limits : Sizes) (h : List Event) (id : Id) → IsLegal limits h → id.number ≡ next_number h id.caller → is_among id (accepted h) ≡ false
next-fresh limits h id legal next =
    false_from_ne_true (is_among id (accepted h))
    (λ among. let le = holds-legal limits AreCounted (counted-push limits) h (λ id among. absurd (cc among)) legal id among in omega (arith, le, next))

-- the jobs that were queued are those that were taken, followed by those that wait
pub queue-line : (limits : Sizes) (h : List Event) → IsLegal limits h → queued h ≡ taken h ++ waiting h
queue-line limits h legal = holds-legal limits (λ h. queued h ≡ taken h ++ waiting h) line-push h refl legal
  where
    front : (h : List Event) (e : Event) → IsAllowed limits h e → waiting h ++ queued (e ∷ []) ≡ taken (e ∷ []) ++ drop (length (taken (e ∷ []))) (waiting h ++ queued (e ∷ []))
    front h (Take id) allowed = rw append-nil (front-is (waiting h) id allowed.0)
    front h e allowed = refl

    line-push : (h : List Event) (e : Event) → queued h ≡ taken h ++ waiting h → IsAllowed limits h e → queued (h ++ e ∷ []) ≡ taken (h ++ e ∷ []) ++ waiting (h ++ e ∷ [])
    line-push h e line allowed =
        let few : length (taken h) ≤ length (queued h) = omega (arith, ap length line ∙ length-append (taken h) (waiting h)) in
        rw (waiting-more h e few, filter_map-append queued_id h (e ∷ []), filter_map-append taken_id h (e ∷ []))
        (ap (λ (ids : List Id). ids ++ queued (e ∷ [])) line ∙ append_assoc (taken h) (waiting h) (queued (e ∷ []))
        ∙ ap (λ (ids : List Id). taken h ++ ids) (front h e allowed) ∙ sym (append_assoc (taken h) (taken (e ∷ [])) _))

pub taken-le : (limits : Sizes) (h : List Event) → IsLegal limits h → length (taken h) ≤ length (queued h)
taken-le limits h legal = omega (arith, ap length (queue-line limits h legal) ∙ length-append (taken h) (waiting h))
