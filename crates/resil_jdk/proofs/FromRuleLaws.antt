-- What the rule of `resil_rule` allows, the whole rule allows, and nothing else that it has words for.
use Rattle.std.proofs.Common.{◌≡◌, ◌≤◌, ◌∷◌, [], ◌++◌, ◌∙◌, inl, inr, ◌||◌, ◌&&◌, ◌==◌, ℕ, suc, Bool, true, false, not, cond, List, length, filter, nat_lt, refl, sym, ap, arith}
use Rattle.std.specs.List.{filter_map}
use Rattle.std.proofs.lemmas.Bool.{cases_Bool}
use Rattle.std.proofs.lemmas.Grind.{common_steps}
use Rattle.std.proofs.lemmas.List.{map-append}
use Rattle.std.proofs.lemmas.List.Elements.{filter-append}
use Rattle.resil_rule.specs.Limits.{Sizes, AreLimits}
use Rattle.resil_rule.specs.History as old
use Rattle.resil_rule.specs.History.{is_same_id, is_among, times, last_size}
use Rattle.resil_rule.specs.Admission as rule
use Rattle.resil_rule.specs.declared.event.Id.{Id}
use Rattle.resil_rule.specs.declared.event.Reply.{Reply}
use Rattle.resil_rule.specs.declared.event.Reply.TheVariants as reply
use Rattle.resil_rule.specs.declared.event.Event.{Event}
use Rattle.resil_rule.specs.declared.event.Event.TheVariants as event
use Rattle.resil_rule.proofs.IdLaws.{same_id-self}
use Rattle.resil_rule.proofs.TimesLaws.{somewhere}
use Rattle.resil_rule.proofs.FreshLaws as oldfresh
use Rattle.resil_rule.proofs.ConservationLaws.{tracked, accepted-parts}
use Rattle.resil_rule.proofs.EventLaws.{not-among}
use Rattle.resil_rule.proofs.LegalLaws as oldlegal
use Rattle.resil_rule.proofs.SizeLaws.{sizes-quiet, sizes-resized}
use Rattle.resil_jdk.specs.History as whole
use Rattle.resil_jdk.specs.Admission.{reply_after, IsAllowed, AreAllowedAfter, IsLegal}
use Rattle.resil_jdk.specs.FromRule.{jdk_reply, jdk_event, jdk_history, HasCore, HaveCore, AreLegalAlike}
use Rattle.resil_jdk.specs.declared.event.JdkReply.{JdkReply}
use Rattle.resil_jdk.specs.declared.event.JdkReply.TheVariants.{Core, First, Queued, Handed, Extra, Full, Closed}
use Rattle.resil_jdk.proofs.HistoryLaws.{legal-push}

-- ---- the filters of both
same-started : (h : List Event) → whole.run_at_once (jdk_history h) ≡ old.started h
same-started [] = refl
same-started (event.Submit id reply.Core ∷ h) = ap (λ (ids : List Id). id ∷ ids) (same-started h)
same-started (event.Submit id reply.Extra ∷ h) = ap (λ (ids : List Id). id ∷ ids) (same-started h)
same-started (event.Submit id reply.Queued ∷ h) = same-started h
same-started (event.Submit id reply.Full ∷ h) = same-started h
same-started (event.Submit id reply.Closed ∷ h) = same-started h
same-started (e ∷ h) = same-started h

same-begins : (h : List Event) → length (filter whole.is_begin (jdk_history h)) ≡ length (old.started h)
same-begins [] = refl
same-begins (event.Submit id reply.Core ∷ h) = ap suc (same-begins h)
same-begins (event.Submit id reply.Extra ∷ h) = ap suc (same-begins h)
same-begins (event.Submit id reply.Queued ∷ h) = same-begins h
same-begins (event.Submit id reply.Full ∷ h) = same-begins h
same-begins (event.Submit id reply.Closed ∷ h) = same-begins h
same-begins (e ∷ h) = same-begins h

same-queued : (h : List Event) → whole.queued (jdk_history h) ≡ old.queued h
same-queued [] = refl
same-queued (event.Submit id reply.Queued ∷ h) = ap (λ (ids : List Id). id ∷ ids) (same-queued h)
same-queued (event.Submit id reply.Core ∷ h) = same-queued h
same-queued (event.Submit id reply.Extra ∷ h) = same-queued h
same-queued (event.Submit id reply.Full ∷ h) = same-queued h
same-queued (event.Submit id reply.Closed ∷ h) = same-queued h
same-queued (e ∷ h) = same-queued h

same-ends : (h : List Event) → length (filter whole.is_end (jdk_history h)) ≡ length (filter old.is_idle_end h)
same-ends [] = refl
same-ends (event.IdleEnd ∷ h) = ap suc (same-ends h)
same-ends (e ∷ h) = same-ends h

same-taken : (h : List Event) → whole.taken (jdk_history h) ≡ old.taken h
same-taken [] = refl
same-taken (event.Take id ∷ h) = ap (λ (ids : List Id). id ∷ ids) (same-taken h)
same-taken (e ∷ h) = same-taken h

same-left : (h : List Event) → whole.left (jdk_history h) ≡ old.taken h
same-left [] = refl
same-left (event.Take id ∷ h) = ap (λ (ids : List Id). id ∷ ids) (same-left h)
same-left (e ∷ h) = same-left h

same-finished : (h : List Event) → whole.finished (jdk_history h) ≡ old.finished h
same-finished [] = refl
same-finished (event.Finish id ∷ h) = ap (λ (ids : List Id). id ∷ ids) (same-finished h)
same-finished (e ∷ h) = same-finished h

same-closed : (h : List Event) → whole.is_closed (jdk_history h) ≡ old.is_closed h
same-closed [] = refl
same-closed (event.Close ∷ h) = refl
same-closed (e ∷ h) = same-closed h

never-stopped : (h : List Event) → whole.is_stopped (jdk_history h) ≡ false
never-stopped [] = refl
never-stopped (event.Submit id answer ∷ h) = never-stopped h
never-stopped (event.Take id ∷ h) = never-stopped h
never-stopped (event.Finish id ∷ h) = never-stopped h
never-stopped (event.IdleEnd ∷ h) = never-stopped h
never-stopped (event.Close ∷ h) = never-stopped h
never-stopped (event.Resized core max ∷ h) = never-stopped h

never-out : (h : List Event) → filter_map whole.new_time_out (jdk_history h) ≡ []
never-out [] = refl
never-out (event.Submit id answer ∷ h) = never-out h
never-out (event.Take id ∷ h) = never-out h
never-out (event.Finish id ∷ h) = never-out h
never-out (event.IdleEnd ∷ h) = never-out h
never-out (event.Close ∷ h) = never-out h
never-out (event.Resized core max ∷ h) = never-out h

same-cores : (h : List Event) → filter_map whole.new_core (jdk_history h) ≡ filter_map old.new_core h
same-cores [] = refl
same-cores (event.Resized core max ∷ h) = ap (λ (sizes : List ℕ). core ∷ sizes) (same-cores h)
same-cores (e ∷ h) = same-cores h

same-maxes : (h : List Event) → filter_map whole.new_max (jdk_history h) ≡ filter_map old.new_max h
same-maxes [] = refl
same-maxes (event.Resized core max ∷ h) = ap (λ (sizes : List ℕ). max ∷ sizes) (same-maxes h)
same-maxes (e ∷ h) = same-maxes h

same-submissions : (caller : ℕ) (h : List Event) → length (whole.submissions (jdk_history h) caller) ≡ length (old.submissions h caller)
same-submissions caller [] = refl
same-submissions caller (event.Submit id answer ∷ h) = grind (arith, same-submissions caller h, cases_Bool (id.caller == caller))
same-submissions caller (e ∷ h) = same-submissions caller h

-- ---- what waits
all-gone : (a ids : List Id) → ((x : Id) → is_among x ids ≡ true → is_among x a ≡ true) → whole.without a ids ≡ []
all-gone a [] gone = refl
all-gone a (y ∷ ids) gone =
    let first = gone y (ap (λ (b : Bool). b || is_among y ids) (same_id-self y)) in
    let rest = all-gone a ids (λ x among. gone x (grind (arith, among, cases_Bool (is_same_id x y)))) in grind (arith, first, rest)

none-gone : (a ids : List Id) → ((x : Id) → is_among x ids ≡ true → is_among x a ≡ false) → whole.without a ids ≡ ids
none-gone a [] here = refl
none-gone a (y ∷ ids) here =
    let first = here y (ap (λ (b : Bool). b || is_among y ids) (same_id-self y)) in
    let rest = none-gone a ids (λ x among. here x (grind (arith, among, cases_Bool (is_same_id x y)))) in grind (arith, first, rest)

module _ (limits : Sizes) (h : List Event) (legal : rule.IsLegal limits h) where
  same-waiting : whole.waiting (jdk_history h) ≡ old.waiting h
  same-waiting =
      let gone : whole.without (old.taken h) (old.taken h) ≡ [] = all-gone (old.taken h) (old.taken h) (λ x among. among) in
      let stays : whole.without (old.taken h) (old.waiting h) ≡ old.waiting h = none-gone (old.taken h) (old.waiting h) (λ x among.
      let some = somewhere x (old.waiting h) among in let t = tracked limits h legal x in let parts = accepted-parts h x in
      not-among x (old.taken h) (omega (arith, some, t.once, t.lined, parts))) in
      rw (same-left h, same-queued h)
      (ap (whole.without (old.taken h)) (oldfresh.queue-line limits h legal)
      ∙ filter-append (λ id. not (is_among id (old.taken h))) (old.taken h) (old.waiting h)
      ∙ ap (λ (ids : List Id). ids ++ whole.without (old.taken h) (old.waiting h)) gone ∙ stays)

  same-workers : whole.workers (jdk_history h) ≡ old.workers h
  same-workers = rw (same-begins h, same-ends h) refl

  same-running : whole.running (jdk_history h) ≡ old.running h
  same-running = rw (same-started h, same-taken h, same-finished h) refl

  same-core : whole.core_size limits (jdk_history h) ≡ old.core_size limits h
  same-core = ap (last_size limits.core) (same-cores h)

  same-max : whole.max_size limits (jdk_history h) ≡ old.max_size limits h
  same-max = ap (last_size limits.max) (same-maxes h)

  same-kept : whole.kept_size limits (jdk_history h) ≡ old.core_size limits h
  same-kept = rw (never-out h) same-core

-- ---- the answer
no-first : (c k p n i m : Bool) → (k ≡ false → n ≡ false) → i ≡ false
    → cond c Closed (cond k Core (cond p (cond n First Queued) (cond i Handed (cond m Extra Full)))) ≡ jdk_reply (cond c reply.Closed (cond k reply.Core (cond p reply.Queued (cond m reply.Extra reply.Full))))
no-first true k p n i m first hand = refl
no-first false true p n i m first hand = refl
no-first false false true true i m first hand = absurd (cc (first refl))
no-first false false true false i m first hand = refl
no-first false false false n true m first hand = absurd (cc hand)
no-first false false false n false true first hand = refl
no-first false false false n false false first hand = refl

not-zero : (a b : ℕ) → 1 ≤ b → nat_lt a b ≡ false → (a == 0) ≡ false
not-zero a b some h = grind (arith, common_steps, some, h)

no-places : (q : ℕ) (b : Bool) → 1 ≤ q → ((q == 0) && b) ≡ false
no-places q b some = grind (arith, common_steps, some, cases_Bool b)

module _ (limits : Sizes) (sized : AreLimits limits) (h : List Event) (legal : rule.IsLegal limits h) (core_some : 1 ≤ old.core_size limits h) where
  same-reply : reply_after limits (jdk_history h) ≡ jdk_reply (rule.reply_after limits h)
  same-reply = rw (same-closed h, same-workers limits h legal, same-core limits h legal, same-waiting limits h legal, same-running limits h legal, same-max limits h legal)
      (no-first (old.is_closed h) (nat_lt (old.workers h) (old.core_size limits h)) (nat_lt (length (old.waiting h)) limits.queue) (old.workers h == 0)
      ((limits.queue == 0) && nat_lt (length (old.running h)) (old.workers h)) (nat_lt (old.workers h) (old.max_size limits h))
      (not-zero (old.workers h) (old.core_size limits h) core_some) (no-places limits.queue (nat_lt (length (old.running h)) (old.workers h)) sized.queue.0))

  allowed-whole : (e : Event) → rule.IsAllowed limits h e → IsAllowed limits (jdk_history h) (jdk_event e)
  allowed-whole (event.Submit id answer) may = (may.0 ∙ ap suc (sym (same-submissions id.caller h)), ap jdk_reply may.1 ∙ sym same-reply)
  allowed-whole (event.Take id) may = (rw (same-waiting limits h legal) may.0, rw (same-running limits h legal, same-workers limits h legal) may.1, never-stopped h)
  allowed-whole (event.Finish id) may = rw (same-running limits h legal) may
  allowed-whole event.IdleEnd may = (
    rw (same-waiting limits h legal) may.0,
    rw (same-running limits h legal, same-workers limits h legal) may.1,
    elim may.2 [ inl spare ↦ inl (rw (same-kept limits h legal, same-workers limits h legal) spare) | inr closed ↦ inr (same-closed h ∙ closed) ],
  )
  allowed-whole event.Close may = same-closed h ∙ may
  allowed-whole (event.Resized core max) may = (may.1, omega (arith, may.0, may.1), may.2)

-- kept by each event: legal by both, and a core size of 1 or more
module _ (limits : Sizes) (sized : AreLimits limits) where
  record AreBoth (h : List Event) : Type 0 where
    by_old : rule.IsLegal limits h
    by_whole : IsLegal limits (jdk_history h)
    core_some : 1 ≤ old.core_size limits h

  core-after : (h : List Event) (e : Event) → 1 ≤ old.core_size limits h → rule.IsAllowed limits h e → 1 ≤ old.core_size limits (h ++ e ∷ [])
  core-after h (event.Resized core max) some may = let s = sizes-resized limits h core max in omega (arith, s.core_is, may.0)
  core-after h e some may =
      let s = sizes-quiet limits h e (old.core_size limits h) (old.max_size limits h) refl refl (record { core_is = refl; max_is = refl }) in omega (arith, s.core_is, some)

  both-push : (h : List Event) (e : Event) → AreBoth h → rule.IsAllowed limits h e → AreBoth (h ++ e ∷ [])
  both-push h e both may = record {
    by_old = oldlegal.legal-push limits h e both.by_old may;
    by_whole = rw (map-append jdk_event h (e ∷ [])) (legal-push limits (jdk_history h) (jdk_event e) both.by_whole (allowed-whole limits sized h both.by_old both.core_some e may));
    core_some = core-after h e both.core_some may;
  }

-- ---- and back
abbrev narrowed : JdkReply → Reply
narrowed Core = reply.Core
narrowed First = reply.Closed
narrowed Queued = reply.Queued
narrowed Handed = reply.Closed
narrowed Extra = reply.Extra
narrowed Full = reply.Full
narrowed Closed = reply.Closed

narrowed-back : (r : Reply) → narrowed (jdk_reply r) ≡ r
narrowed-back reply.Core = refl
narrowed-back reply.Queued = refl
narrowed-back reply.Extra = refl
narrowed-back reply.Full = refl
narrowed-back reply.Closed = refl

module _ (limits : Sizes) (sized : AreLimits limits) (h : List Event) (legal : rule.IsLegal limits h) (core_some : 1 ≤ old.core_size limits h) where
  allowed-old : (e : Event) → HasCore e → IsAllowed limits (jdk_history h) (jdk_event e) → rule.IsAllowed limits h e
  allowed-old (event.Submit id answer) has may = (may.0 ∙ ap suc (same-submissions id.caller h), sym (narrowed-back answer) ∙ ap narrowed (may.1 ∙ same-reply limits sized h legal core_some) ∙ narrowed-back (rule.reply_after limits h))
  allowed-old (event.Take id) has may = (rw (same-waiting limits h legal) at may.0, rw (same-running limits h legal, same-workers limits h legal) at may.1)
  allowed-old (event.Finish id) has may = rw (same-running limits h legal) at may
  allowed-old event.IdleEnd has may = (
    rw (same-waiting limits h legal) at may.0,
    rw (same-running limits h legal, same-workers limits h legal) at may.1,
    elim may.2 [ inl spare ↦ inl (rw (same-kept limits h legal, same-workers limits h legal) at spare) | inr closed ↦ inr (sym (same-closed h) ∙ closed) ],
  )
  allowed-old event.Close has may = sym (same-closed h) ∙ may
  allowed-old (event.Resized core max) has may = (has, may.0, may.2)

module _ (limits : Sizes) (sized : AreLimits limits) where
  back : (before events : List Event) → AreBoth limits sized before → HaveCore events → AreAllowedAfter limits (jdk_history before) (jdk_history events) → rule.AreAllowedAfter limits before events
  back before [] both has legal = tt
  back before (e ∷ events) both has legal =
      let may = allowed-old limits sized before both.by_old both.core_some e has.0 legal.0 in
      let rest : AreAllowedAfter limits (jdk_history (before ++ e ∷ [])) (jdk_history events) = rw (map-append jdk_event before (e ∷ [])) legal.1 in
      (may, back (before ++ e ∷ []) events (both-push limits sized before e both may) has.1 rest)

pub legal-alike : AreLegalAlike
legal-alike limits h sized has =
    let at_first : AreBoth limits sized [] = record { by_old = tt; by_whole = tt; core_some = sized.core.0 } in (
      (λ legal. (oldfresh.holds-legal limits (AreBoth limits sized) (both-push limits sized) h at_first legal).by_whole),
      (λ legal. back limits sized [] h at_first has legal),
    )
