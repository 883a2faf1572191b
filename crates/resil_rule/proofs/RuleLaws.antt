-- Each step of the rule follows the definitions, after every history that may have led to its state.
use Rattle.std.proofs.Common.{◌⊎◌, inl, inr, ◌≡◌, ◌↔◌, ◌<◌, ◌≤◌, ◌+◌, ◌-◌, ◌∷◌, [], ◌++◌, ◌∙◌, ◌||◌, ◌==◌, ℕ, suc, Bool, true, false, cond, IsTrue, List, Option, Some, None, length, filter, drop, slice_get, slice_set, slice_index_or, refl, sym, ap, arith, append-nil, length-append, length-drop}
use Rattle.std.proofs.Math.Bool.{or-false}
use Rattle.std.specs.Bool.{OnTrue}
use Rattle.std.proofs.lemmas.Bool.{cases_lt}
use Rattle.std.proofs.lemmas.Grind.{common_steps}
use Rattle.std.proofs.lemmas.List.{drop-append-le, length-map, map-append}
use Rattle.std.proofs.lemmas.List.Elements.{filter_map-append}
use Rattle.std.proofs.lemmas.List.Folds.{list_any-append}
use Rattle.resil_rule.specs.Limits.{Sizes}
use Rattle.resil_rule.specs.Admission.{IsAllowed, IsLegal, reply_after}
use Rattle.resil_rule.specs.History.{times, started, queued, accepted, finished, taken, running, waiting, workers, next_number, is_submit_of, is_idle_end, is_close, is_closed, started_id, taken_id, finished_id}
use Rattle.resil_rule.specs.Numbers.{AreNumbersOf, AreSizesOf}
use Rattle.resil_rule.specs.RuleView.{RuleView, ids_of, opened, busy, made_by, next_reply, counted, with_start, with_submission, with_pick, with_take, with_finish, with_close, with_idle_end, with_sizes, MayEndIdle}
use Rattle.resil_rule.specs.RuleState.{IsStateOf, Follows, StaysAt}
use Rattle.resil_rule.specs.Slots.{ids_out}
use Rattle.resil_rule.specs.declared.slots.Slot.{Slot}
use Rattle.resil_rule.specs.declared.event.Id.{Id}
use Rattle.resil_rule.specs.declared.event.Reply.{Reply}
use Rattle.resil_rule.specs.declared.event.Reply.TheVariants.{Core, Queued, Extra}
use Rattle.resil_rule.specs.declared.event.Event.{Event}
use Rattle.resil_rule.specs.declared.event.Event.TheVariants.{Submit, Take, Finish, IdleEnd, Close, Resized}
use Rattle.resil_rule.proofs.LegalLaws.{legal-push}
use Rattle.resil_rule.proofs.TimesLaws.{times-last, times-append, among-some, same-length}
use Rattle.resil_rule.proofs.UnpickedLaws.{line-next}
use Rattle.resil_rule.proofs.SizeLaws.{sizes-quiet, sizes-resized}
use Rattle.resil_rule.proofs.SlotLaws.{put-times, clear-times, there-out, none-out}
use Rattle.resil_rule.proofs.ConservationLaws.{balance}
use Rattle.resil_rule.proofs.RunningLaws.{numbers-legal}
use Rattle.resil_rule.proofs.EventLaws.{submissions-more, count-more, times-more, ends-more, waiting-more, front-is}

pub length-ids : {W : Type 0} (jobs : List (Id × W)) → length (ids_of jobs) ≡ length jobs
length-ids jobs = length-map jobs (λ job. job.0)

-- the numbers of a view fit a legal history that is closed if the view is, has its workers, and in which its jobs run
numbers-of : {W : Type 0} (v : RuleView W) (h : List Event) → IsLegal v.limits h → v.closed ≡ is_closed h → v.workers ≡ workers h
    → ((x : Id) → times x (running h) ≡ times x (ids_of v.unpicked) + times x (ids_out v.out)) → AreNumbersOf h v.closed v.workers (busy v) (length (accepted h))
numbers-of v h legal closed works runs =
    let k = numbers-legal v.limits h legal in
    let same = same-length (running h) (ids_of v.unpicked ++ ids_out v.out) (λ x. runs x ∙ sym (times-append x (ids_of v.unpicked) (ids_out v.out))) in
    let long = same ∙ length-append (ids_of v.unpicked) (ids_out v.out) in
    let unpicked = length-ids v.unpicked in
    record {
      closed_is = closed;
      workers_are = works;
      running_are = omega (arith, long, unpicked);
      accepted_are = refl;
      ended_few = k.ended_few;
      running_few = omega (arith, long, unpicked, works, k.running_few);
      taken_few = k.taken_few;
    }

module _ {W : Type 0} where
  -- what an event does to the closing and to the workers of a view
  abbrev Counts : RuleView W → RuleView W → Event → Type 0
  Counts v after e = (after.limits ≡ v.limits) × (after.closed ≡ (v.closed || is_closed (e ∷ []))) × (after.workers + length (filter is_idle_end (e ∷ [])) ≡ v.workers + length (started (e ∷ [])))

  -- and to its jobs: a started job isn't picked yet, a queued one comes last, a taken one leaves at the front and goes out, and a finished one is no longer out
  abbrev Moves : RuleView W → RuleView W → Event → Type 0
  Moves v after e = (ids_of after.unpicked ≡ ids_of v.unpicked ++ started (e ∷ [])) × (ids_of after.waiting ≡ drop (length (taken (e ∷ []))) (ids_of v.waiting ++ queued (e ∷ [])))
      × ((x : Id) → times x (ids_out after.out) + times x (finished (e ∷ [])) ≡ times x (ids_out v.out) + times x (taken (e ∷ [])))

module _ {W : Type 0} (v : RuleView W) (h : List Event) (state : IsStateOf h v) where
  -- the reply is the rule's
  pub reply-is : next_reply v ≡ reply_after v.limits h
  reply-is =
      let long : length v.waiting ≡ length (waiting h) = sym (length-ids v.waiting) ∙ ap length state.waiting_is in
      rw (sym state.numbers.closed_is, sym state.numbers.workers_are, sym state.sizes.core_is, sym state.sizes.max_is, sym long) refl

  -- at most as many jobs are unpicked as were started
  pub few-unpicked : length v.unpicked ≤ length (started h)
  few-unpicked =
      let long = sym (length-ids v.unpicked) ∙ ap length state.unpicked ∙ length-drop (length (started h) - length v.unpicked) (started h) in
      omega (arith, long)

  -- one event more, by what it does to the view
  goes-on : (e : Event) (after : RuleView W) → IsAllowed v.limits h e → Counts v after e → Moves v after e → AreSizesOf v.limits (h ++ e ∷ []) after.core after.max
      → ((c : ℕ) → made_by after c ≡ made_by v c + cond (is_submit_of c e) 1 0) → IsStateOf (h ++ e ∷ []) after
  goes-on e after allowed (limits, shut, works) (unpicked, waits, outs) sizes made =
      let now = h ++ e ∷ [] in
      let legal = legal-push v.limits h e state.legal allowed in
      let fits = numbers-legal v.limits now legal in
      let s = count-more started_id h e in
      let i = ends-more h e in
      let old = state.numbers.workers_are in
      let workers_are : after.workers ≡ workers now = omega (arith, s, i, works, old, fits.ended_few, state.numbers.ended_few) in
      let longer = sym (length-ids after.unpicked) ∙ ap length unpicked ∙ length-append (ids_of v.unpicked) (started (e ∷ [])) in
      let ids = length-ids v.unpicked in
      let from : length (started now) - length after.unpicked ≡ length (started h) - length v.unpicked = omega (arith, s, longer, ids, few-unpicked) in
      let within : length (started h) - length v.unpicked ≤ length (started h) = omega arith in
      let runs : (x : Id) → times x (running now) ≡ times x (ids_of after.unpicked) + times x (ids_out after.out) = λ x.
      let begun = ap (times x) unpicked ∙ times-append x (ids_of v.unpicked) (started (e ∷ [])) in
      omega (arith, begun, outs x, state.runs x, balance v.limits h state.legal x, balance v.limits now legal x, times-more started_id h e x, times-more taken_id h e x, times-more finished_id h e x) in
      record {
        legal = rw limits legal;
        sizes = rw limits sizes;
        numbers = numbers-of after now (rw limits legal) (shut ∙ ap (λ (b : Bool). b || is_closed (e ∷ [])) state.numbers.closed_is ∙ sym (list_any-append is_close h (e ∷ []))) workers_are runs;
        unpicked = unpicked ∙ ap (λ (ids : List Id). ids ++ started (e ∷ [])) state.unpicked
            ∙ sym (rw (from, filter_map-append) (drop-append-le (length (started h) - length v.unpicked) (started h) (started (e ∷ [])) within));
        waiting_is = waits ∙ ap (λ (ids : List Id). drop (length (taken (e ∷ []))) (ids ++ queued (e ∷ []))) state.waiting_is ∙ sym (waiting-more h e state.numbers.taken_few);
        runs = runs;
        made_are = λ c. let made_before = state.made_are c in let more = submissions-more h e c in omega (arith, made c, made_before, more);
      }

  -- an event that is no submission and sets no size
  goes-by : (e : Event) (after : RuleView W) → IsAllowed v.limits h e → Counts v after e → Moves v after e → AreSizesOf v.limits (h ++ e ∷ []) after.core after.max
      → ((c : ℕ) → is_submit_of c e ≡ false) → after.made ≡ v.made → IsStateOf (h ++ e ∷ []) after
  goes-by e after allowed counts moves sizes none made = goes-on e after allowed counts moves sizes (λ c. rw (none c, made) (omega arith))

  module _ (id : Id) (next : id.number ≡ suc (made_by v id.caller)) (known : id.caller < length v.made) where
    pub next-is : id.number ≡ next_number h id.caller
    next-is = next ∙ ap suc (state.made_are id.caller)

    made-after : (caller : ℕ) → slice_index_or (slice_set v.made id.caller id.number) caller 0 ≡ made_by v caller + cond (id.caller == caller) 1 0
    made-after caller = grind (arith, common_steps, next, known)

    same-ids : (jobs : List (Id × W)) → ids_of jobs ≡ ids_of jobs ++ []
    same-ids jobs = sym (append-nil (ids_of jobs))

    one-more : (jobs : List (Id × W)) (work : W) → ids_of (jobs ++ (id, work) ∷ []) ≡ ids_of jobs ++ id ∷ []
    one-more jobs work = map-append (λ job. job.0) jobs ((id, work) ∷ [])

    by : (reply : Reply) (count : ℕ) (unpicked waits : List (Id × W)) → IsAllowed v.limits h (Submit id reply)
        → count + 0 ≡ v.workers + length (started (Submit id reply ∷ []))
        → ids_of unpicked ≡ ids_of v.unpicked ++ started (Submit id reply ∷ []) → ids_of waits ≡ ids_of v.waiting ++ queued (Submit id reply ∷ [])
        → IsStateOf (h ++ Submit id reply ∷ []) (record (counted v id) { workers = count; unpicked = unpicked; waiting = waits })
    by reply count unpicked waits allowed works started_is queued_is =
        goes-on (Submit id reply) _ allowed (refl, sym (or-false v.closed), works) (started_is, queued_is, (λ x. refl))
        (sizes-quiet v.limits h (Submit id reply) v.core v.max refl refl state.sizes) made-after

    -- a submission with its reply
    submits : (work : W) (reply : Reply) → IsAllowed v.limits h (Submit id reply) → IsStateOf (h ++ Submit id reply ∷ []) (with_submission v id work reply)
    submits work Core allowed =
        by Core (v.workers + 1) (v.unpicked ++ (id, work) ∷ []) v.waiting allowed (omega arith) (one-more v.unpicked work) (same-ids v.waiting)
    submits work Extra allowed =
        by Extra (v.workers + 1) (v.unpicked ++ (id, work) ∷ []) v.waiting allowed (omega arith) (one-more v.unpicked work) (same-ids v.waiting)
    submits work Queued allowed = by Queued v.workers v.unpicked (v.waiting ++ (id, work) ∷ []) allowed refl (same-ids v.unpicked) (one-more v.waiting work)
    submits work reply allowed = by reply v.workers v.unpicked v.waiting allowed refl (same-ids v.unpicked) (same-ids v.waiting)

module _ {W : Type 0} where
  pub submit-follows : (v : RuleView W) (id : Id) (work : W) (reply : Reply) → id.number ≡ suc (made_by v id.caller) → id.caller < length v.made → reply ≡ next_reply v
      → Follows v (Submit id reply) (with_submission v id work reply)
  submit-follows v id work reply next known is h state =
      let allowed : IsAllowed v.limits h (Submit id reply) = (next-is v h state id next known, is ∙ reply-is v h state) in
      (allowed, submits v h state id next known work reply allowed)

  -- a pick of a job with its own worker
  pub pick-stays : (v : RuleView W) (slot : Slot) (work : W) → slice_get v.out slot.place ≡ Some None → slice_get v.unpicked 0 ≡ Some (slot.id, work) → StaysAt v (with_pick v slot)
  pick-stays v slot work free front h state =
      let split = front-is v.unpicked (slot.id, work) front in
      let long : length v.unpicked ≡ length (drop 1 v.unpicked) + 1 = ap length split ∙ omega arith in
      let from : length (started h) - length (drop 1 v.unpicked) ≡ length (started h) - length v.unpicked + 1 = omega (arith, long, few-unpicked v h state) in
      let runs : (x : Id) → times x (running h) ≡ times x (ids_of (drop 1 v.unpicked)) + times x (ids_out (with_pick v slot).out) = λ x.
      let old = state.runs x in
      let first = ap (λ (jobs : List (Id × W)). times x (ids_of jobs)) split ∙ times-append x (slot.id ∷ []) (ids_of (drop 1 v.unpicked)) in
      let one = times-last x slot.id [] in
      let last = put-times x slot.id v.out slot.place free in
      omega (arith, old, first, one, last) in
      record {
        legal = state.legal;
        sizes = state.sizes;
        numbers = numbers-of (with_pick v slot) h state.legal state.numbers.closed_is state.numbers.workers_are runs;
        unpicked = line-next v.unpicked (started h) (length (started h) - length v.unpicked) state.unpicked ∙ ap (λ (n : ℕ). drop n (started h)) (sym from);
        waiting_is = state.waiting_is;
        runs = runs;
        made_are = state.made_are;
      }

  pub take-follows : (v : RuleView W) (slot : Slot) (work : W) → slice_get v.out slot.place ≡ Some None → slice_get v.waiting 0 ≡ Some (slot.id, work) → busy v < v.workers → Follows v (Take slot.id) (with_take v slot)
  take-follows v slot work free front idle h state =
      let first : slice_get (waiting h) 0 ≡ Some slot.id = ap (λ (ids : List Id). slice_get ids 0) (sym state.waiting_is ∙ ap ids_of (front-is v.waiting (slot.id, work) front)) in
      let spare : length (running h) < workers h = omega (arith, idle, state.numbers.running_are, state.numbers.workers_are) in
      let outs : (x : Id) → times x (ids_out (with_take v slot).out) + 0 ≡ times x (ids_out v.out) + times x (slot.id ∷ []) = λ x.
      let more = put-times x slot.id v.out slot.place free in
      let one = times-last x slot.id [] in
      omega (arith, more, one) in
      let waits = line-next v.waiting (ids_of v.waiting) 0 refl ∙ ap (drop 1) (sym (append-nil (ids_of v.waiting))) in
      let e = Take slot.id in (
        (first, spare),
        goes-by v h state e (with_take v slot) (first, spare) (refl, sym (or-false v.closed), refl) (sym (append-nil (ids_of v.unpicked)), waits, outs)
            (sizes-quiet v.limits h e v.core v.max refl refl state.sizes) (λ c. refl) refl,
      )

  pub finish-follows : (v : RuleView W) (slot : Slot) → slice_get v.out slot.place ≡ Some (Some slot.id) → Follows v (Finish slot.id) (with_finish v slot)
  finish-follows v slot out h state =
      let some : 1 ≤ times slot.id (running h) = omega (arith, state.runs slot.id, there-out slot.id v.out slot.place out) in
      let may = among-some slot.id (running h) some in
      let outs : (x : Id) → times x (ids_out (with_finish v slot).out) + times x (slot.id ∷ []) ≡ times x (ids_out v.out) + 0 = λ x.
      let fewer = clear-times x slot.id v.out slot.place out in
      let one = times-last x slot.id [] in
      omega (arith, fewer, one) in
      let e = Finish slot.id in (
        may,
        goes-by v h state e (with_finish v slot) may (refl, sym (or-false v.closed), refl) (sym (append-nil (ids_of v.unpicked)), sym (append-nil (ids_of v.waiting)), outs)
            (sizes-quiet v.limits h e v.core v.max refl refl state.sizes) (λ c. refl) refl,
      )

  pub finish_follows : (v after : RuleView W) (slot : Slot) (cleared : Bool) → IsTrue cleared ↔ (slice_get v.out slot.place ≡ Some (Some slot.id))
      → OnTrue cleared (after ≡ with_finish v slot) → OnTrue cleared (Follows v (Finish slot.id) after)
  finish_follows v after slot true there event = rw event (finish-follows v slot (there.0 refl))
  finish_follows v after slot false there event = tt

  -- an event by which no job comes, waits, runs or ends
  still : (v : RuleView W) → Moves v v Close
  still v = (sym (append-nil (ids_of v.unpicked)), sym (append-nil (ids_of v.waiting)), (λ x. refl))

  pub close-follows : (v : RuleView W) → v.closed ≡ false → Follows v Close (with_close v)
  close-follows v unclosed h state =
      let may : IsAllowed v.limits h Close = sym state.numbers.closed_is ∙ unclosed in
      (may, goes-by v h state Close (with_close v) may (refl, rw unclosed refl, refl) (still v) (sizes-quiet v.limits h Close v.core v.max refl refl state.sizes) (λ c. refl) refl)

  pub idle-follows : (v : RuleView W) → MayEndIdle v → Follows v IdleEnd (with_idle_end v)
  idle-follows v may h state =
      let allowed : IsAllowed v.limits h IdleEnd = (
        sym state.waiting_is ∙ ap ids_of may.0,
        omega (arith, may.1, state.numbers.running_are, state.numbers.workers_are),
        elim may.2 [ inl spare ↦ inl (omega (arith, spare, state.sizes.core_is, state.numbers.workers_are)) | inr closed ↦ inr (sym state.numbers.closed_is ∙ closed) ],
      ) in
      (allowed, goes-by v h state IdleEnd (with_idle_end v) allowed (refl, sym (or-false v.closed), omega (arith, may.1)) (still v) (sizes-quiet v.limits h IdleEnd v.core v.max refl refl state.sizes) (λ c. refl) refl)

  pub resize-follows : (v : RuleView W) (core max : ℕ) → 1 ≤ core → core ≤ max → max ≤ v.limits.max → Follows v (Resized core max) (with_sizes v core max)
  resize-follows v core max low order high h state =
      ((low, order, high), goes-by v h state (Resized core max) (with_sizes v core max) (low, order, high) (refl, sym (or-false v.closed), refl) (still v) (sizes-resized v.limits h core max) (λ c. refl) refl)

  -- if each worker runs a job, or no job waits, nothing may be taken
  pub busy-none : (v : RuleView W) → v.workers ≤ busy v → (h : List Event) → IsStateOf h v → (id : Id) → ¬ IsAllowed v.limits h (Take id)
  busy-none v full h state id allowed = omega (arith, allowed.1, full, state.numbers.running_are, state.numbers.workers_are)

  pub empty-none : (v : RuleView W) → v.waiting ≡ [] → (h : List Event) → IsStateOf h v → (id : Id) → ¬ IsAllowed v.limits h (Take id)
  empty-none v empty h state id allowed =
      let none : slice_get (waiting h) 0 ≡ None = ap (λ (ids : List Id). slice_get ids 0) (sym state.waiting_is ∙ ap ids_of empty) in
      cc (none, allowed.0)

  -- a new rule may be the state after the empty history
  pub opens : (limits : Sizes) (callers : ℕ) → IsStateOf [] (opened {W = W} limits callers)
  opens limits callers =
      let empty : (ids_out (opened {W = W} limits callers).out) ≡ [] = none-out limits.max in
      let runs : (x : Id) → 0 ≡ 0 + times x (ids_out (opened {W = W} limits callers).out) = λ x. rw empty refl in
      record {
        legal = tt;
        sizes = record { core_is = refl; max_is = refl };
        numbers = numbers-of (opened {W = W} limits callers) [] tt refl refl runs;
        unpicked = refl;
        waiting_is = refl;
        runs = runs;
        made_are = λ c. grind (arith, common_steps, cases_lt c callers);
      }

pub empty-of : {A : Type 0} (xs : List A) (o : Option A) → o ≡ slice_get xs 0 → ((x : A) → o ≡ Some x → ⊥) → xs ≡ []
empty-of [] o first none = refl
empty-of (x ∷ xs) o first none = absurd (none x first)

-- a job that gets its own worker
pub start-follows : {W : Type 0} (v : RuleView W) (id : Id) (work : W) (reply : Reply) → (reply ≡ Core) ⊎ (reply ≡ Extra) → id.number ≡ suc (made_by v id.caller) → id.caller < length v.made → reply ≡ next_reply v
    → Follows v (Submit id reply) (with_start v id work)
start-follows v id work reply (inl core) next known is = rw core (submit-follows v id work Core next known (sym core ∙ is))
start-follows v id work reply (inr extra) next known is = rw extra (submit-follows v id work Extra next known (sym extra ∙ is))

-- the law of an idle end, under a name that code can cite
pub ruleset steps = (idle-follows)
