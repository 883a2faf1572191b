-- How many jobs wait and run after legal events of the whole rule, how many workers there are, and how many jobs were never started.
use Rattle.std.proofs.Common.{◌≡◌, ◌≤◌, ◌<◌, ◌+◌, ◌^◌, ◌⊎◌, inl, inr, ◌∷◌, [], ◌++◌, ◌∙◌, ℕ, zero, suc, Bool, true, false, not, cond, List, length, filter, take, get_or, refl, sym, ap, subst, arith, append_assoc, length-append}
use Rattle.std.proofs.lemmas.List.{length-take-le, take_more}
use Rattle.resil_rule.specs.Limits.{Sizes}
use Rattle.resil_rule.specs.History.{is_among, times}
use Rattle.resil_rule.specs.declared.event.Id.{Id}
use Rattle.resil_rule.proofs.TimesLaws.{nowhere, same-length, somewhere, times-append, times-filter}
use Rattle.resil_jdk.specs.Admission.{AreAllowedAfter, IsLegal}
use Rattle.resil_jdk.specs.History.{accepted, finished, finished_id, is_begin, is_end, left, left_id, queued, queued_id, removed, run_at_once, run_id, running, taken, taken_id, waiting}
use Rattle.resil_jdk.specs.declared.event.JdkReply.TheVariants.{Core, First, Queued, Handed, Extra}
use Rattle.resil_jdk.specs.declared.event.JdkEvent.{JdkEvent}
use Rattle.resil_jdk.specs.declared.event.JdkEvent.TheVariants.{Submit, Take, Finish, IdleEnd, Cull, Remove}
use Rattle.resil_jdk.proofs.ConservationLaws.{accepted-parts, as-many, left-parts, line, tracked}
use Rattle.resil_jdk.proofs.WorkerLaws.{served}
use Rattle.resil_stats.specs.Stats.{IsJdkLoadAfter, IsMoved, MayCome, MayMove, never_started}
use Rattle.resil_stats.specs.declared.stats.Load.{Load}
use Rattle.resil_stats.proofs.CountLaws.{filter_few, filter_more, made_few, made_more}

-- ---- The first events of a legal history.

allowed-take : (limits : Sizes) (before events : List JdkEvent) (k : ℕ) → AreAllowedAfter limits before events → AreAllowedAfter limits before (take k events)
allowed-take limits before events zero legal = tt
allowed-take limits before [] (suc k) legal = tt
allowed-take limits before (e ∷ events) (suc k) legal = (legal.0, allowed-take limits (before ++ e ∷ []) events k legal.1)

pub legal-take : (limits : Sizes) (before b events : List JdkEvent) (k : ℕ) → AreAllowedAfter limits before (b ++ events) → AreAllowedAfter limits before (b ++ take k events)
legal-take limits before [] events k legal = allowed-take limits before events k legal
legal-take limits before (e ∷ b) events k legal = (legal.0, legal-take limits (before ++ e ∷ []) b events k legal.1)

allowed-cut : (limits : Sizes) (before h t : List JdkEvent) → AreAllowedAfter limits before (h ++ t) → AreAllowedAfter limits before h
allowed-cut limits before [] t legal = tt
allowed-cut limits before (e ∷ h) t legal = (legal.0, allowed-cut limits (before ++ e ∷ []) h t legal.1)

pub first-legal : (limits : Sizes) (h t : List JdkEvent) → IsLegal limits (h ++ t) → IsLegal limits h
first-legal limits h t legal = allowed-cut limits [] h t legal

-- ---- What comes and goes in a legal history.

-- The jobs that wait and those that left were queued, those that run and those finished came to a worker, and each that runs has a worker that didn't end.
record Flows (h : List JdkEvent) : Type 0 where
  waits : length (waiting h) + length (left h) ≡ length (queued h)
  runs : length (running h) + length (finished h) ≡ length (run_at_once h) + length (taken h)
  ends : length (running h) + length (filter is_end h) ≤ length (filter is_begin h)

flows : (limits : Sizes) (h : List JdkEvent) → IsLegal limits h → Flows h
flows limits h legal =
    let same = same-length (queued h) (left h ++ waiting h) (λ x. line limits h legal x ∙ sym (times-append x (left h) (waiting h))) in
    let parts = length-append (left h) (waiting h) in
    record { waits = omega (arith, same, parts); runs = as-many limits h legal; ends = served limits h legal }

-- an event that takes a job from the queue puts none there, one that finishes a job starts none, and one that ends a worker begins none
no-entry : (e : JdkEvent) → (length (left (e ∷ [])) ≡ 0) ⊎ (length (queued (e ∷ [])) ≡ 0)
no-entry (Take id) = inr refl
no-entry (Remove id) = inr refl
no-entry e = inl refl

no-start : (e : JdkEvent) → (length (finished (e ∷ [])) ≡ 0) ⊎ ((length (run_at_once (e ∷ [])) ≡ 0) × (length (taken (e ∷ [])) ≡ 0))
no-start (Finish id) = inr (refl, refl)
no-start e = inl refl

no-begin : (e : JdkEvent) → (length (filter is_end (e ∷ [])) ≡ 0) ⊎ (length (filter is_begin (e ∷ [])) ≡ 0)
no-begin IdleEnd = inr refl
no-begin Cull = inr refl
no-begin e = inl refl

module _ (limits : Sizes) (h : List JdkEvent) (e : JdkEvent) (legal : IsLegal limits (h ++ e ∷ [])) (load : Load) (is : IsJdkLoadAfter h load) where
  now : Flows h
  now = flows limits h (allowed-cut limits [] h (e ∷ []) legal)

  next : Flows (h ++ e ∷ [])
  next = flows limits (h ++ e ∷ []) legal

  pub may-move : length h + 1 < 2 ^ 64 → MayMove load e
  may-move short =
      let q = made_more queued_id h e in let l = made_more left_id h e in let r = made_more run_id h e in let t = made_more taken_id h e in let f = made_more finished_id h e in
      let b = filter_more is_begin h e in let d = filter_more is_end h e in let few = made_few queued_id h in let fewer = filter_few is_begin h in
      let n = now in let m = next in
      record {
        waiting = elim (no-entry e) [ inl none ↦ omega (arith, none) | inr none ↦ omega (arith, none, q, l, n.waits, m.waits, is.waiting) ];
        running = elim (no-start e) [ inl none ↦ omega (arith, none) | inr none ↦ omega (arith, none.0, none.1, r, t, f, n.runs, m.runs, is.running) ];
        workers = elim (no-begin e) [ inl none ↦ omega (arith, none) | inr none ↦ omega (arith, none, b, d, n.ends, m.ends, is.workers) ];
        room = (omega (arith, n.waits, few, short, is.waiting), omega (arith, n.ends, fewer, short, is.running), omega (arith, fewer, short, is.workers));
      }

  pub load-after : (after : Load) → IsMoved load e after → IsJdkLoadAfter (h ++ e ∷ []) after
  load-after after moved =
      let q = made_more queued_id h e in let l = made_more left_id h e in let r = made_more run_id h e in let t = made_more taken_id h e in let f = made_more finished_id h e in
      let b = filter_more is_begin h e in let d = filter_more is_end h e in
      let n = now in let m = next in
      record {
        waiting = omega (arith, q, l, n.waits, m.waits, is.waiting, moved.waiting);
        running = omega (arith, r, t, f, n.runs, m.runs, is.running, moved.running);
        workers = omega (arith, b, d, n.ends, m.ends, is.workers, moved.workers);
      }

pub may-move_when : (load : Load) (e : JdkEvent) → MayCome load e → MayMove load e
may-move_when load e (limits, h, legal, is, short) = may-move limits h e legal load is short

-- ---- One event after another.

-- an event, for places that are never read
abbrev pub no_event : JdkEvent
no_event = Submit (record { caller = 0; number = 0 }) Core

-- after some events, the next of others that follow them
module _ (limits : Sizes) (b events : List JdkEvent) (legal : IsLegal limits (b ++ events)) (i : ℕ) (d : JdkEvent) (lt : i < length events) where
  longer : b ++ take (i + 1) events ≡ (b ++ take i events) ++ get_or events i d ∷ []
  longer = ap (λ (l : List JdkEvent). b ++ l) (take_more events i d lt) ∙ sym (append_assoc b (take i events) (get_or events i d ∷ []))

  pub next-legal : IsLegal limits ((b ++ take i events) ++ get_or events i d ∷ [])
  next-legal = subst (IsLegal limits) longer (legal-take limits [] b events (i + 1) legal)

  pub next-load : (load : Load) → IsJdkLoadAfter ((b ++ take i events) ++ get_or events i d ∷ []) load → IsJdkLoadAfter (b ++ take (i + 1) events) load
  next-load load is = subst (λ (h : List JdkEvent). IsJdkLoadAfter h load) (sym longer) is

  pub may-come : (load : Load) → IsJdkLoadAfter (b ++ take i events) load → length b + length events < 2 ^ 64 → MayCome load (get_or events i d)
  may-come load is short =
      let few = length-take-le i events (omega (arith, lt)) in let all = length-append b (take i events) in
      (limits, b ++ take i events, next-legal, is, omega (arith, few, all, lt, short))

-- ---- The jobs that were never started.

parts-length : (h : List JdkEvent) → length (run_at_once h) + length (queued h) ≡ length (accepted h)
parts-length [] = refl
parts-length (Submit id Core ∷ h) = omega (arith, parts-length h)
parts-length (Submit id First ∷ h) = omega (arith, parts-length h)
parts-length (Submit id Queued ∷ h) = omega (arith, parts-length h)
parts-length (Submit id Handed ∷ h) = omega (arith, parts-length h)
parts-length (Submit id Extra ∷ h) = omega (arith, parts-length h)
parts-length (e ∷ h) = parts-length h

left-length : (h : List JdkEvent) → length (taken h) + length (removed h) ≡ length (left h)
left-length [] = refl
left-length (Take id ∷ h) = omega (arith, left-length h)
left-length (Remove id ∷ h) = omega (arith, left-length h)
left-length (e ∷ h) = left-length h

module _ (limits : Sizes) (h : List JdkEvent) (legal : IsLegal limits h) where
  -- each accepted job came to a worker or was never started
  balance : (x : Id) → times x (never_started h) + times x (run_at_once h ++ taken h) ≡ times x (accepted h)
  balance x = go (is_among x (run_at_once h ++ taken h)) refl
    where
      go : (b : Bool) → is_among x (run_at_once h ++ taken h) ≡ b → times x (never_started h) + times x (run_at_once h ++ taken h) ≡ times x (accepted h)
      go true is =
          let none : times x (never_started h) ≡ 0 = times-filter _ x (accepted h) ∙ ap (λ b. cond (not b) (times x (accepted h)) 0) is in
          let some = somewhere x (run_at_once h ++ taken h) is in
          let kept = tracked limits h legal x in
          omega (arith, none, some, kept.1, kept.2, accepted-parts h x, left-parts h x, times-append x (run_at_once h) (taken h))
      go false is =
          let all : times x (never_started h) ≡ times x (accepted h) = times-filter _ x (accepted h) ∙ ap (λ b. cond (not b) (times x (accepted h)) 0) is in
          omega (arith, all, nowhere x (run_at_once h ++ taken h) is)

  never-count : length (never_started h) + length (taken h) ≡ length (queued h)
  never-count =
      let all = same-length (never_started h ++ (run_at_once h ++ taken h)) (accepted h) (λ x. times-append x (never_started h) (run_at_once h ++ taken h) ∙ balance x) in
      let parts = length-append (never_started h) (run_at_once h ++ taken h) in
      omega (arith, all, parts, length-append (run_at_once h) (taken h), parts-length h)

  -- they are those that wait, and those that were removed
  pub never-started : length (waiting h) + length (removed h) ≡ length (never_started h)
  never-started = let flow = flows limits h legal in omega (arith, never-count, left-length h, flow.waits)

  pub never-few : length (waiting h) + length (removed h) ≤ length h
  never-few = let flow = flows limits h legal in let few = made_few queued_id h in omega (arith, left-length h, flow.waits, few)
