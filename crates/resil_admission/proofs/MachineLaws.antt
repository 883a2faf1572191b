-- A machine after each step of its rule.
use Rattle.std.specs.Prelude.{IfNone}
use Rattle.std.proofs.Common.{inl, inr, ◌⊎◌, Bool, cond, ◌≡◌, ◌<◌, ◌≤◌, ◌+◌, ◌-◌, ◌∷◌, [], ◌++◌, ◌∙◌, ℕ, suc, true, false, List, Option, Some, None, length, drop, take, slice_get, refl, sym, ap, subst, arith, append-nil, length-append}
use Rattle.std.proofs.lemmas.List.{map-append}
use Rattle.resil_admission.specs.Words.{PlanView, is_among, is_same_id, times, taken, unfinished, started, accepted, waiting, running, workers, started_id, accepted_id, IsAllowed, AllView, ids_out, IsStateOf, Slot, Id, Reply, Core, Queued, Extra, Full, Closed, Event, Submit, Take, Accepted}
use Rattle.resil_rule.specs.Limits.{AreLimits}
use Rattle.resil_rule.specs.RuleView.{RuleView, ids_of as ids_waiting, busy, owed, is_acceptance, counted, with_submission, with_pick, with_take, with_finish}
use Rattle.resil_rule.proofs.EventLaws.{front-is}
use Rattle.resil_rule.proofs.ConservationLaws.{conserved, in_flight-accepted, times-cons}
use Rattle.resil_rule.proofs.SlotLaws.{there-out}
use Rattle.resil_rule.proofs.IdLaws.{same_id-equal}
use Rattle.resil_rule.proofs.TimesLaws.{among-times, is_positive, same_id-sym, times-last, times-one}
use Rattle.resil_rule.proofs.RefusalLaws.{out-are}
use Rattle.resil_rule.proofs.RuleLaws.{few-unpicked}
use Rattle.resil_rule.proofs.UnpickedLaws.{started-same, accepted-same, filtered-more, line-first, line-none}
use Rattle.resil_admission.specs.MachineView.{MachineView, newly_accepted, with_event, with_submission as machine_submission, ids_of, IsPicked, HasOneToPick, HasNoneToPick}
use Rattle.resil_admission.specs.JobsInvariant.{unpicked_in}
use Rattle.resil_admission.specs.MachineInvariant.{MachineInvariant, times_unpicked}
use Rattle.resil_admission.specs.JobsView.{JobsView}

-- the machine after an event
pub machine-after : (h : List Event) (e : Event) (rule : RuleView (Unit {0})) (all : AllView) (jobs : JobsView) → AreLimits rule.limits → IsStateOf (h ++ e ∷ []) rule → all.events ≡ h ++ e ∷ [] → owed rule ≤ all.room
    → ids_of jobs.jobs ≡ accepted (h ++ e ∷ []) → ((id : Id) → 1 ≤ times_unpicked rule id → unpicked_in jobs.kept id ≡ true) → MachineInvariant (record { rule = rule; history = all; jobs = jobs })
machine-after h e rule all jobs limits state events room ids unpicked = record {
  limits = limits;
  state = subst (λ (history : List Event). IsStateOf history rule) (sym events) state;
  room = room;
  accepted = ids ∙ ap accepted (sym events);
  unpicked = unpicked;
}

-- a submission leaves the limits
pub started-within : {W : Type 0} (v : RuleView W) (id : Id) (work : W) (reply : Reply) → AreLimits v.limits → AreLimits (with_submission v id work reply).limits
started-within v id work Core are = are
started-within v id work Queued are = are
started-within v id work Extra are = are
started-within v id work Full are = are
started-within v id work Closed are = are

module _ {W : Type 0} where
  -- after a submission, those that weren't picked are those before and the one that was accepted
  pub unpicked-submitted : (v : RuleView W) (id : Id) (work : W) (reply : Reply) (x : Id) → 1 ≤ times_unpicked (with_submission v id work reply) x → (is_same_id x id ≡ true) ⊎ (1 ≤ times_unpicked v x)
  unpicked-submitted v id work reply x some = go reply some
    where
      more : (line : List (Id × W)) → times x (ids_waiting (line ++ (id, work) ∷ [])) ≡ times x (ids_waiting line) + cond (is_same_id x id) 1 0
      more line = ap (times x) (map-append (λ job. job.0) line ((id, work) ∷ [])) ∙ times-last x id (ids_waiting line) ∙ ap (λ b. times x (ids_waiting line) + cond b 1 0) (same_id-sym id x)

      one : (b : Bool) (n : ℕ) → is_same_id x id ≡ b → 1 ≤ n + cond b 1 0 → (is_same_id x id ≡ true) ⊎ (1 ≤ n)
      one true n same some = inl same
      one false n same some = inr (omega (arith, some))

      go : (reply : Reply) → 1 ≤ times_unpicked (with_submission v id work reply) x → (is_same_id x id ≡ true) ⊎ (1 ≤ times_unpicked v x)
      go Core some = one (is_same_id x id) _ refl (omega (arith, more v.unpicked, some))
      go Queued some = one (is_same_id x id) _ refl (omega (arith, more v.waiting, some))
      go Extra some = one (is_same_id x id) _ refl (omega (arith, more v.unpicked, some))
      go Full some = inr some
      go Closed some = inr some

  -- an id among those of a line and of the line without its first
  without : (x : Id) (line : List (Id × W)) (job : Id × W) → slice_get line 0 ≡ Some job → times x (ids_waiting line) ≡ cond (is_same_id x job.0) 1 0 + times x (ids_waiting (drop 1 line))
  without x line job front =
      ap (λ (line : List (Id × W)). times x (ids_waiting line)) (front-is line job front) ∙ times-cons x job.0 (ids_waiting (drop 1 line)) ∙ ap (λ n. n + times x (ids_waiting (drop 1 line))) (times-one x job.0)

  module _ (v : RuleView W) (h : List Event) (state : IsStateOf h v) where
    -- a job is there once at most
    once : (x : Id) → times_unpicked v x + times x (ids_out v.out) ≤ 1
    once x = let c = conserved v.limits h state.legal x in omega (arith, c.sum, c.once, state.runs x, ap (times x) state.waiting_is)

    -- without the first of those that weren't picked, the others are still there, and are others
    left : (id x : Id) (b : Bool) → is_same_id x id ≡ b → (n : ℕ) → times_unpicked v x ≡ cond b 1 0 + n → 1 ≤ n → (is_same_id x id ≡ false) × (1 ≤ times_unpicked v x)
    left id x true same n is some = let most = once x in absurd (omega (arith, is, most, some))
    left id x false same n is some = (same, omega (arith, is, some))

    pub left-picked : (slot : Slot) (work : W) → slice_get v.unpicked 0 ≡ Some (slot.id, work) → (x : Id) → 1 ≤ times_unpicked (with_pick v slot) x → (is_same_id x slot.id ≡ false) × (1 ≤ times_unpicked v x)
    left-picked slot work front x some = left slot.id x _ refl (times_unpicked (with_pick v slot) x) (omega (arith, without x v.unpicked (slot.id, work) front)) some

    pub left-taken : (slot : Slot) (work : W) → slice_get v.waiting 0 ≡ Some (slot.id, work) → (x : Id) → 1 ≤ times_unpicked (with_take v slot) x → (is_same_id x slot.id ≡ false) × (1 ≤ times_unpicked v x)
    left-taken slot work front x some = left slot.id x _ refl (times_unpicked (with_take v slot) x) (omega (arith, without x v.waiting (slot.id, work) front)) some

    -- one that is out is none of those that weren't picked
    pub out-picked : (slot : Slot) → slice_get v.out slot.place ≡ Some (Some slot.id) → (x : Id) → 1 ≤ times_unpicked v x → is_same_id x slot.id ≡ false
    out-picked slot there x some = go (is_same_id x slot.id) refl
      where
        go : (b : Bool) → is_same_id x slot.id ≡ b → is_same_id x slot.id ≡ false
        go true same =
            let out = there-out slot.id v.out slot.place there in
            let most = once slot.id in
            let own : 1 ≤ times_unpicked v slot.id = subst (λ (id : Id). 1 ≤ times_unpicked v id) (same_id-equal x slot.id same) some in
            absurd (omega (arith, out, most, own))
        go false other = other

-- the accepted jobs after a submission
pub accepted-after : (h : List Event) (jobs : List Accepted) (id : Id) (plan : PlanView) (reply : Reply) → is_acceptance reply ≡ true → ids_of jobs ≡ accepted h
    → ids_of (jobs ++ record { id = id; plan = plan; run = None } ∷ []) ≡ accepted (h ++ Submit id reply ∷ [])
accepted-after h jobs id plan reply accepts same =
    map-append (λ job. job.id) jobs (record { id = id; plan = plan; run = None } ∷ []) ∙ ap (λ (ids : List Id). ids ++ id ∷ []) same ∙ sym (filtered-more accepted_id h (Submit id reply) id (grind (arith, accepts)))

pub refused-after : (h : List Event) (id : Id) (reply : Reply) → is_acceptance reply ≡ false → accepted (h ++ Submit id reply ∷ []) ≡ accepted h
refused-after h id reply bars = accepted-same h (Submit id reply) (grind (arith, bars))

-- the first job that wasn't picked
pub next-is : (v : RuleView (Unit {0})) (h : List Event) → IsStateOf h v → (id : Id) (work : Unit {0}) → slice_get v.unpicked 0 ≡ Some (id, work) → slice_get (started h) (length (started h) - length v.unpicked) ≡ Some id
next-is v h state id work front = line-first v.unpicked (started h) (length (started h) - length v.unpicked) state.unpicked (id, work) (drop 1 v.unpicked) (front-is v.unpicked (id, work) front)

pub next-none : (v : RuleView (Unit {0})) (h : List Event) → IsStateOf h v → v.unpicked ≡ [] → slice_get (started h) (length (started h) - length v.unpicked) ≡ None
next-none v h state none = line-none v.unpicked (started h) (length (started h) - length v.unpicked) state.unpicked none

-- a machine, as its contracts see it
abbrev pub seen : RuleView (Unit {0}) → List Event → List Accepted → MachineView
seen v h jobs = record { limits = v.limits; history = h; picked = length (started h) - length v.unpicked; jobs = jobs }

-- an event that starts no worker leaves how many were picked
pub quiet-picked : (h : List Event) (e : Event) (unpicked : List (Id × Unit {0})) → started_id e ≡ None → length (started (h ++ e ∷ [])) - length unpicked ≡ length (started h) - length unpicked
quiet-picked h e unpicked starts = ap (λ (ids : List Id). length ids - length unpicked) (started-same h e starts)

-- a machine after such an event, as its contracts see it
pub quiet-view : (v : RuleView (Unit {0})) (h after : List Event) (e : Event) (jobs : List Accepted) → started_id e ≡ None → after ≡ h ++ e ∷ [] → seen v after jobs ≡ with_event (seen v h jobs) e
quiet-view v h after e jobs starts is = rw is (ap (λ (n : ℕ). record (seen v (h ++ e ∷ []) jobs) { picked = n }) (quiet-picked h e v.unpicked starts))

module _ (v : RuleView (Unit {0})) (h : List Event) (state : IsStateOf h v) (jobs : List Accepted) where
  -- the job that the rule picked
  pub own-picked : (slot : Slot) (work : Unit {0}) → slice_get v.unpicked 0 ≡ Some (slot.id, work) → IsPicked (seen v h jobs) slot.id (seen (with_pick v slot) h jobs)
  own-picked slot work front =
      let few = few-unpicked v h state in
      let fewer : length v.unpicked ≡ length (drop 1 v.unpicked) + 1 = ap length (front-is v.unpicked (slot.id, work) front) ∙ omega arith in
      let more : length (started h) - length (drop 1 v.unpicked) ≡ length (started h) - length v.unpicked + 1 = omega (arith, few, fewer) in
      inl (next-is v h state slot.id work front, ap (λ (n : ℕ). record (seen v h jobs) { picked = n }) more)

  pub queue-picked : (slot : Slot) (after : List Event) → v.unpicked ≡ [] → IsAllowed v.limits h (Take slot.id) → after ≡ h ++ Take slot.id ∷ [] → IsPicked (seen v h jobs) slot.id (seen (with_take v slot) after jobs)
  queue-picked slot after none allowed is = inr (next-none v h state none, allowed, quiet-view v h after (Take slot.id) jobs refl is)

  -- whether there is a job to pick
  pub one-own : 0 < length v.unpicked → HasOneToPick (seen v h jobs)
  one-own some = go v.unpicked refl some
    where
      go : (line : List (Id × Unit {0})) → v.unpicked ≡ line → 0 < length line → HasOneToPick (seen v h jobs)
      go [] is some = absurd (omega (arith, some))
      go (job ∷ line) is some =
          let front : slice_get v.unpicked 0 ≡ Some job = ap (λ (jobs : List (Id × Unit {0})). slice_get jobs 0) is in
          (job.0, _, inl (next-is v h state job.0 job.1 front, refl))

  pub one-queued : v.unpicked ≡ [] → 0 < length v.waiting → busy v < v.workers → HasOneToPick (seen v h jobs)
  one-queued none some idle = go v.waiting refl some
    where
      go : (line : List (Id × Unit {0})) → v.waiting ≡ line → 0 < length line → HasOneToPick (seen v h jobs)
      go [] is some = absurd (omega (arith, some))
      go (job ∷ line) is some =
          let front : slice_get (waiting h) 0 ≡ Some job.0 = ap (λ (ids : List Id). slice_get ids 0) (sym state.waiting_is ∙ ap ids_waiting is) in
          let worker : length (running h) < workers h = omega (arith, idle, state.numbers.running_are, state.numbers.workers_are) in
          (job.0, _, inr (next-none v h state none, (front, worker), refl))

  pub none-taken : v.unpicked ≡ [] → ((id : Id) → ¬ IsAllowed v.limits h (Take id)) → HasNoneToPick (seen v h jobs)
  none-taken none bars = (next-none v h state none, bars)

-- what is said of nothing, if there is nothing
pub nothing : {A : Type 0} {P : Type 0} (o : Option A) → ((x : A) → o ≡ Some x → ⊥) → IfNone o P → P
nothing None never said = said
nothing (Some x) never said = absurd (never x refl)

pub is-nothing : {A : Type 0} (o : Option A) → ((x : A) → o ≡ Some x → ⊥) → o ≡ None
is-nothing None never = refl
is-nothing (Some x) never = absurd (never x refl)

-- a job that is out was picked or taken, and isn't finished; and it was accepted
pub out-there : (v : RuleView (Unit {0})) (h : List Event) → IsStateOf h v → (slot : Slot) → slice_get v.out slot.place ≡ Some (Some slot.id)
    → is_among slot.id (unfinished h (take (length (started h) - length v.unpicked) (started h) ++ taken h)) ≡ true
out-there v h state slot there =
    let more : times slot.id (ids_out v.out) ≡ suc (times slot.id (ids_out (with_finish v slot).out)) = omega (arith, there-out slot.id v.out slot.place there) in
    sym (out-are v h state slot.id) ∙ among-times slot.id (ids_out v.out) ∙ ap is_positive more

-- a submission that is refused is counted alone
pub refused-counted : (v : RuleView (Unit {0})) (id : Id) (reply : Reply) → is_acceptance reply ≡ false → with_submission v id tt reply ≡ counted v id
refused-counted v id Core bars = absurd (cc bars)
refused-counted v id Queued bars = absurd (cc bars)
refused-counted v id Extra bars = absurd (cc bars)
refused-counted v id reply bars = refl

-- a machine after a submission, as its contracts see it
pub refused-view : (v : RuleView (Unit {0})) (h : List Event) (jobs : List Accepted) (id : Id) (reply : Reply) (plan : PlanView) → is_acceptance reply ≡ false
    → seen v (h ++ Submit id reply ∷ []) jobs ≡ machine_submission (seen v h jobs) id reply plan
refused-view v h jobs id reply plan bars =
    let same = quiet-picked h (Submit id reply) v.unpicked (grind (arith, bars)) in
    let none : newly_accepted id reply plan ≡ [] = grind (arith, bars) in
    let whole : jobs ≡ jobs ++ newly_accepted id reply plan = rw none (sym (append-nil jobs)) in
    ap (λ (n : ℕ). record (seen v (h ++ Submit id reply ∷ []) jobs) { picked = n }) same
    ∙ ap (λ (all : List Accepted). record (seen v h jobs) { history = h ++ Submit id reply ∷ []; jobs = all }) whole

pub accepted-view : (v : RuleView (Unit {0})) (h : List Event) → IsStateOf h v → (jobs : List Accepted) (id : Id) (reply : Reply) (plan : PlanView) → is_acceptance reply ≡ true
    → seen (with_submission v id tt reply) (h ++ Submit id reply ∷ []) (jobs ++ record { id = id; plan = plan; run = None } ∷ []) ≡ machine_submission (seen v h jobs) id reply plan
accepted-view v h state jobs id reply plan accepts = go reply accepts
  where
    job : Accepted
    job = record { id = id; plan = plan; run = None }

    started-one : (reply : Reply) → started_id (Submit id reply) ≡ Some id
        → length (started (h ++ Submit id reply ∷ [])) - length (v.unpicked ++ (id, tt) ∷ []) ≡ length (started h) - length v.unpicked
    started-one reply starts =
        let grown : length (started (h ++ Submit id reply ∷ [])) ≡ length (started h) + 1 = ap length (filtered-more started_id h (Submit id reply) id starts) ∙ length-append (started h) (id ∷ []) in
        let longer : length (v.unpicked ++ (id, tt) ∷ []) ≡ length v.unpicked + 1 = length-append v.unpicked ((id, tt) ∷ []) in
        omega (arith, grown, longer)

    go : (reply : Reply) → is_acceptance reply ≡ true
        → seen (with_submission v id tt reply) (h ++ Submit id reply ∷ []) (jobs ++ job ∷ []) ≡ machine_submission (seen v h jobs) id reply plan
    go Core a = ap (λ (n : ℕ). record (seen v (h ++ Submit id Core ∷ []) (jobs ++ job ∷ [])) { picked = n }) (started-one Core refl)
    go Queued a = ap (λ (n : ℕ). record (seen v (h ++ Submit id Queued ∷ []) (jobs ++ job ∷ [])) { picked = n }) (quiet-picked h (Submit id Queued) v.unpicked refl)
    go Extra a = ap (λ (n : ℕ). record (seen v (h ++ Submit id Extra ∷ []) (jobs ++ job ∷ [])) { picked = n }) (started-one Extra refl)
    go Full a = absurd (cc a)
    go Closed a = absurd (cc a)

-- a job that the rule finds among those that are out
module _ (v : RuleView (Unit {0})) (h : List Event) (state : IsStateOf h v) (slot : Slot) (id : Id) (found : (slot.id ≡ id) × (slice_get v.out slot.place ≡ Some (Some id))) where
  pub found-at : slice_get v.out slot.place ≡ Some (Some slot.id)
  found-at = found.1 ∙ ap (λ (id : Id). Some (Some id)) (sym found.0)

  pub found-out : is_among id (unfinished h (take (length (started h) - length v.unpicked) (started h) ++ taken h)) ≡ true
  found-out = subst (λ (id : Id). is_among id (unfinished h (take (length (started h) - length v.unpicked) (started h) ++ taken h)) ≡ true) found.0 (out-there v h state slot found-at)

  pub found-known : (jobs : List Accepted) → ids_of jobs ≡ accepted h → is_among id (ids_of jobs) ≡ true
  found-known jobs same = ap (is_among id) same ∙ in_flight-accepted v.limits h state.legal (length (started h) - length v.unpicked) id found-out
