-- Each step of the rule follows the definitions.
use Rattle.std.proofs.Common.{◌≡◌, ◌≤◌, ◌∷◌, [], ◌++◌, ◌∙◌, inl, inr, ◌||◌, suc, Bool, true, false, not, List, length, slice_get, refl, sym, ap, arith}
use Rattle.std.specs.List.{filter_map}
use Rattle.std.proofs.lemmas.Bool.{cases_Bool, or_cases, false_from_ne_true}
use Rattle.std.proofs.lemmas.List.Elements.{filter-append, filter_map-append}
use Rattle.std.proofs.lemmas.List.Folds.{list_any-append}
use Rattle.resil_rule.specs.Limits.{Sizes}
use Rattle.resil_rule.specs.History.{is_same_id, is_among, times, last_size}
use Rattle.resil_rule.specs.declared.event.Id.{Id}
use Rattle.resil_rule.proofs.IdLaws.{same_id-self}
use Rattle.resil_rule.proofs.TimesLaws.{somewhere, nowhere, same-length}
use Rattle.resil_rule.proofs.EventLaws.{not-among}
use Rattle.resil_jdk.specs.declared.event.JdkReply.{JdkReply}
use Rattle.resil_jdk.specs.declared.event.JdkReply.TheVariants.{Core, First, Queued, Handed, Extra, Full, Closed}
use Rattle.resil_jdk.specs.declared.event.JdkEvent.{JdkEvent}
use Rattle.resil_jdk.specs.declared.event.JdkEvent.TheVariants.{Submit, Take, Finish, IdleEnd, Close, Resized, Start, Cull, Remove, Stop, TimeOut}
use Rattle.resil_jdk.specs.History.{run_id, queued_id, taken_id, left_id, finished_id, is_begin, is_end, is_closing, is_stop, queued, accepted, left, without, waiting, running, is_closed, is_stopped, last_setting, new_core, new_max, new_time_out, next_number}
use Rattle.resil_jdk.specs.Admission.{reply_after, IsAllowed, IsLegal}
use Rattle.resil_jdk.specs.RuleView.{JdkView, next_reply, joined, May, IsStep, IsTidied}
use Rattle.resil_jdk.specs.RuleState.{IsStateOf, Follows, StaysAt, IsBarred}
use Rattle.resil_jdk.proofs.HistoryLaws.{submissions-more, times-more, marks-more, legal-push, last_size-both, last_setting-both}
use Rattle.resil_jdk.proofs.ConservationLaws.{next-fresh, accepted-parts, left-parts, only-one, front-among, tracked, line, balance}
use Rattle.resil_jdk.proofs.WorkerLaws.{served}
use Rattle.resil_jdk.proofs.LineLaws.{those, without-both, among-same, line-after}

pub or-true : (b : Bool) → (b || true) ≡ true
or-true true = refl
or-true false = refl

-- ---- histories
module _ (limits : Sizes) (h : List JdkEvent) (legal : IsLegal limits h) where
  -- a job that is next isn't in the pool, and never was
  module _ (id : Id) (next : id.number ≡ next_number h id.caller) where
    none-accepted : times id (accepted h) ≡ 0
    none-accepted = nowhere id (accepted h) (next-fresh limits h id legal next)

    pub fresh-queued : is_among id (queued h) ≡ false
    fresh-queued = let none = none-accepted in let parts = accepted-parts h id in not-among id (queued h) (omega (arith, none, parts))

    pub fresh-left : is_among id (left h) ≡ false
    fresh-left = let none = none-accepted in let parts = accepted-parts h id in let k = tracked limits h legal id in not-among id (left h) (omega (arith, none, parts, k.2))

    pub fresh-waiting : is_among id (waiting h) ≡ false
    fresh-waiting = let none = none-accepted in let parts = accepted-parts h id in let l = line limits h legal id in not-among id (waiting h) (omega (arith, none, parts, l))

    pub fresh-running : is_among id (running h) ≡ false
    fresh-running =
        let none = none-accepted in let parts = accepted-parts h id in let lefts = left-parts h id in let k = tracked limits h legal id in let b = balance limits h legal id in
        not-among id (running h) (omega (arith, none, parts, lefts, k.2, b))

  pub waits-few : (x : Id) → times x (waiting h) ≤ 1
  waits-few x = let k = tracked limits h legal x in let parts = accepted-parts h x in let l = line limits h legal x in omega (arith, k.1, parts, l)

  -- a job that waits doesn't run
  pub waits-or_runs : (x : Id) → is_among x (waiting h) ≡ true → is_among x (running h) ≡ false
  waits-or_runs x among =
      let some = somewhere x (waiting h) among in let k = tracked limits h legal x in let parts = accepted-parts h x in let lefts = left-parts h x in
      let l = line limits h legal x in let b = balance limits h legal x in not-among x (running h) (omega (arith, some, k.1, parts, lefts, l, b))

  -- a job that comes into the queue is new, and hasn't left it
  pub comes-new : (e : JdkEvent) → IsAllowed limits h e → (x : Id) → is_among x (queued (e ∷ [])) ≡ true → (is_among x (queued h) ≡ false) × (is_among x (left h) ≡ false)
  comes-new (Submit id First) may x among = let e = only-one x id among in rw e (fresh-queued id may.0, fresh-left id may.0)
  comes-new (Submit id Queued) may x among = let e = only-one x id among in rw e (fresh-queued id may.0, fresh-left id may.0)
  comes-new (Submit id Core) may x among = absurd (cc among)
  comes-new (Submit id Handed) may x among = absurd (cc among)
  comes-new (Submit id Extra) may x among = absurd (cc among)
  comes-new (Submit id Full) may x among = absurd (cc among)
  comes-new (Submit id Closed) may x among = absurd (cc among)
  comes-new e may x among = absurd (cc among)

  -- no event takes a job out of the queue and puts another into it
  comes-or_goes : (e : JdkEvent) (x : Id) → is_among x (queued (e ∷ [])) ≡ true → is_among x (left (e ∷ [])) ≡ false
  comes-or_goes (Submit id reply) x among = refl
  comes-or_goes e x among = absurd (cc among)

  -- those who wait after an event
  pub waiting-more : (e : JdkEvent) → IsAllowed limits h e → waiting (h ++ e ∷ []) ≡ without (left (e ∷ [])) (waiting h) ++ queued (e ∷ [])
  waiting-more e may = ap (λ (ids : List Id). without (left (h ++ e ∷ [])) ids) (filter_map-append queued_id h (e ∷ []))
      ∙ ap (λ (gone : List Id). without gone (queued h ++ queued (e ∷ []))) (filter_map-append left_id h (e ∷ []))
      ∙ filter-append (λ id. not (is_among id (left h ++ left (e ∷ [])))) (queued h) (queued (e ∷ []))
      ∙ ap (λ (ids : List Id). ids ++ without (left h ++ left (e ∷ [])) (queued (e ∷ []))) (without-both (left h) (left (e ∷ [])) (queued h))
      ∙ ap (λ (ids : List Id). without (left (e ∷ [])) (waiting h) ++ ids) (none-gone (queued (e ∷ [])) (λ x among. grind (arith, list_any-append (is_same_id x) (left h) (left (e ∷ [])), (comes-new e may x among).1, comes-or_goes e x among)))
    where
      none-gone : (ids : List Id) → ((x : Id) → is_among x ids ≡ true → is_among x (left h ++ left (e ∷ [])) ≡ false) → without (left h ++ left (e ∷ [])) ids ≡ ids
      none-gone [] here = refl
      none-gone (y ∷ ids) here =
          let first = here y (ap (λ (b : Bool). b || is_among y ids) (same_id-self y)) in
          let rest = none-gone ids (λ x among. here x (grind (arith, among, cases_Bool (is_same_id x y)))) in grind (arith, first, rest)

-- ---- what the rule asks for is what the definitions ask for
no-length : (ids : List Id) → length ids ≡ 0 → ids ≡ []
no-length [] none = refl
no-length (y ∷ ids) none = absurd (omega (arith, none))

module _ (v : JdkView) (h : List JdkEvent) (state : IsStateOf h v) where
  busy-is : length (running h) ≡ length v.runs
  busy-is = sym (same-length v.runs (running h) state.runs_are)

  waits-are : length (waiting h) ≡ length v.waits
  waits-are = sym (same-length v.waits (waiting h) state.waits_are)

  runs-among : (id : Id) → is_among id v.runs ≡ is_among id (running h)
  runs-among id = among-same id v.runs (running h) (state.runs_are id)

  waits-among : (id : Id) → is_among id v.waits ≡ is_among id (waiting h)
  waits-among id = among-same id v.waits (waiting h) (state.waits_are id)

  reply-is : next_reply v ≡ reply_after v.limits h
  reply-is = rw (sym state.closed_is, sym state.workers_are, sym state.core_is, sym state.max_is, waits-are, busy-is) refl

  fresh-joined : (id : Id) (reply : JdkReply) → id.number ≡ next_number h id.caller → is_among id (joined v reply) ≡ false
  fresh-joined id Core next = runs-among id ∙ fresh-running v.limits h state.legal id next
  fresh-joined id First next = waits-among id ∙ fresh-waiting v.limits h state.legal id next
  fresh-joined id Queued next = waits-among id ∙ fresh-waiting v.limits h state.legal id next
  fresh-joined id Handed next = runs-among id ∙ fresh-running v.limits h state.legal id next
  fresh-joined id Extra next = runs-among id ∙ fresh-running v.limits h state.legal id next
  fresh-joined id Full next = refl
  fresh-joined id Closed next = refl

  may-allowed : (e : JdkEvent) → May v e → IsAllowed v.limits h e
  may-allowed (Submit id reply) may = (may.0 ∙ ap suc (state.made_are id.caller), may.1 ∙ reply-is)
  may-allowed (Take id) may = (ap (λ (ids : List Id). slice_get ids 0) (sym state.queue_is) ∙ may.0, omega (arith, may.1, busy-is, state.workers_are), sym state.stopped_is ∙ may.2)
  may-allowed (Finish id) may = sym (runs-among id) ∙ may
  may-allowed IdleEnd may = (
    no-length (waiting h) (waits-are ∙ may.0),
    omega (arith, may.1, busy-is, state.workers_are),
    elim may.2 [ inl spare ↦ inl (rw (sym state.time_out_is, sym state.core_is, sym state.workers_are) spare) | inr closed ↦ inr (sym state.closed_is ∙ closed) ],
  )
  may-allowed Close may = sym state.closed_is ∙ may
  may-allowed (Resized core max) may = may
  may-allowed Start may = (
    omega (arith, may.0, state.core_is, state.workers_are),
    sym state.stopped_is ∙ may.1,
    elim may.2 [ inl unclosed ↦ inl (sym state.closed_is ∙ unclosed) | inr some ↦ inr (omega (arith, some, waits-are)) ],
  )
  may-allowed Cull may = (omega (arith, may.0, busy-is, state.workers_are), elim may.1 [ inl above ↦ inl (omega (arith, above, state.max_is, state.workers_are)) | inr stopped ↦ inr (sym state.stopped_is ∙ stopped) ])
  may-allowed (Remove id) may = sym (waits-among id) ∙ may
  may-allowed Stop may = sym state.stopped_is ∙ may
  may-allowed (TimeOut on) may = tt

  allowed-may : (e : JdkEvent) → IsAllowed v.limits h e → May v e
  allowed-may (Submit id reply) may = (may.0 ∙ ap suc (sym (state.made_are id.caller)), may.1 ∙ sym reply-is, fresh-joined id reply may.0)
  allowed-may (Take id) may = (
    ap (λ (ids : List Id). slice_get ids 0) state.queue_is ∙ may.0,
    omega (arith, may.1, busy-is, state.workers_are),
    state.stopped_is ∙ may.2,
    runs-among id ∙ waits-or_runs v.limits h state.legal id (front-among id (waiting h) may.0),
  )
  allowed-may (Finish id) may = runs-among id ∙ may
  allowed-may IdleEnd may = (
    sym waits-are ∙ ap length may.0,
    omega (arith, may.1, busy-is, state.workers_are),
    elim may.2 [ inl spare ↦ inl (rw (state.time_out_is, state.core_is, state.workers_are) spare) | inr closed ↦ inr (state.closed_is ∙ closed) ],
  )
  allowed-may Close may = state.closed_is ∙ may
  allowed-may (Resized core max) may = may
  allowed-may Start may = (
    omega (arith, may.0, state.core_is, state.workers_are),
    state.stopped_is ∙ may.1,
    elim may.2 [ inl unclosed ↦ inl (state.closed_is ∙ unclosed) | inr some ↦ inr (omega (arith, some, waits-are)) ],
  )
  allowed-may Cull may = (omega (arith, may.0, busy-is, state.workers_are), elim may.1 [ inl above ↦ inl (omega (arith, above, state.max_is, state.workers_are)) | inr stopped ↦ inr (state.stopped_is ∙ stopped) ])
  allowed-may (Remove id) may = waits-among id ∙ may
  allowed-may Stop may = state.stopped_is ∙ may
  allowed-may (TimeOut on) may = tt

  -- ---- one event further
  goes-on : (e : JdkEvent) (after : JdkView) → IsStep v e after → IsAllowed v.limits h e → IsStateOf (h ++ e ∷ []) after
  goes-on e after step may =
      let now = h ++ e ∷ [] in let legal : IsLegal v.limits now = legal-push v.limits h e state.legal may in let b = marks-more is_begin h e in let d = marks-more is_end h e in
      let ok = served v.limits h state.legal in let ok_now = served v.limits now legal in let works = step.workers in let old = state.workers_are in
      let few : (x : Id) → times x v.waits ≤ 1 = λ x. let few = waits-few v.limits h state.legal x in let w = state.waits_are x in omega (arith, few, w) in
      let come : (x : Id) → is_among x v.line ≡ true → is_among x (queued (e ∷ [])) ≡ false = λ x among.
      false_from_ne_true (is_among x (queued (e ∷ []))) (λ new. absurd (cc (sym (state.lined x among) ∙ (comes-new v.limits h state.legal e may x new).0))) in
      record {
        legal = rw step.limits legal;
        core_is = rw step.limits (step.core ∙ ap (λ n. last_size n (filter_map new_core (e ∷ []))) state.core_is ∙ sym (last_size-both v.limits.core (filter_map new_core h) (filter_map new_core (e ∷ []))) ∙ ap (last_size v.limits.core) (sym (filter_map-append new_core h (e ∷ []))));
        max_is = rw step.limits (step.max ∙ ap (λ n. last_size n (filter_map new_max (e ∷ []))) state.max_is ∙ sym (last_size-both v.limits.max (filter_map new_max h) (filter_map new_max (e ∷ []))) ∙ ap (last_size v.limits.max) (sym (filter_map-append new_max h (e ∷ []))));
        time_out_is = step.time_out ∙ ap (λ n. last_setting n (filter_map new_time_out (e ∷ []))) state.time_out_is ∙ sym (last_setting-both false (filter_map new_time_out h) (filter_map new_time_out (e ∷ []))) ∙ ap (last_setting false) (sym (filter_map-append new_time_out h (e ∷ [])));
        closed_is = step.closed ∙ ap (λ (c : Bool). c || is_closed (e ∷ [])) state.closed_is ∙ sym (list_any-append is_closing h (e ∷ []));
        stopped_is = step.stopped ∙ ap (λ (c : Bool). c || is_stopped (e ∷ [])) state.stopped_is ∙ sym (list_any-append is_stop h (e ∷ []));
        workers_are = omega (arith, b, d, ok, ok_now, works, old);
        queue_is = ap (those after.waits) step.line
            ∙ line-after v.line v.waits after.waits (left (e ∷ [])) (queued (e ∷ [])) few step.waits come (comes-or_goes v.limits h state.legal e)
            ∙ ap (λ (ids : List Id). without (left (e ∷ [])) ids ++ queued (e ∷ [])) state.queue_is
            ∙ sym (waiting-more v.limits h state.legal e may);
        waits_are = λ x.
            omega (arith, step.waits x, state.waits_are x, line v.limits h state.legal x, line v.limits now legal x, times-more left_id h e x, times-more queued_id h e x);
        runs_are = λ x.
            omega (arith, step.runs x, state.runs_are x, balance v.limits h state.legal x, balance v.limits now legal x, times-more run_id h e x, times-more taken_id h e x, times-more finished_id h e x);
        lined = λ x among.
            rw filter_map-append (list_any-append (is_same_id x) (queued h) (queued (e ∷ []))
            ∙ elim (or_cases _ _ (sym (list_any-append (is_same_id x) v.line (queued (e ∷ []))) ∙ ap (is_among x) (sym step.line) ∙ among)) [
              | inl before ↦ ap (λ (b : Bool). b || is_among x (queued (e ∷ []))) (state.lined x before)
              | inr new ↦ ap (λ (b : Bool). is_among x (queued h) || b) new ∙ or-true (is_among x (queued h))
            ]);
        made_are = λ c. let made_before = state.made_are c in let more = submissions-more h e c in let m = step.made c in omega (arith, m, made_before, more);
      }

-- what the rule asks for is allowed, and a step leaves the state after the event
pub step-follows : (v : JdkView) (e : JdkEvent) (after : JdkView) → May v e → IsStep v e after → Follows v e after
step-follows v e after may step h state = let allowed = may-allowed v h state e may in (allowed, goes-on v h state e after step allowed)

pub not-barred : (v : JdkView) (e : JdkEvent) → ¬ May v e → IsBarred v e
not-barred v e bars h state allowed = bars (allowed-may v h state e allowed)

-- room that is given back or taken isn't an event
pub tidied-stays : (v after : JdkView) → IsTidied v after → StaysAt v after
tidied-stays v after tidied h state = rw tidied.rest (record {
  legal = state.legal;
  core_is = state.core_is;
  max_is = state.max_is;
  time_out_is = state.time_out_is;
  closed_is = state.closed_is;
  stopped_is = state.stopped_is;
  workers_are = state.workers_are;
  queue_is = tidied.queue.queue ∙ state.queue_is;
  waits_are = state.waits_are;
  runs_are = state.runs_are;
  lined = λ x among. state.lined x (tidied.queue.line x among);
  made_are = λ c. tidied.made c ∙ state.made_are c;
})
