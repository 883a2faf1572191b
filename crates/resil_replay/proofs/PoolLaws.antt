-- The jobs that are out of a pool, after each event.
use Rattle.resil_replay.proofs.Words.{◌≡◌, ◌+◌, ◌<◌, ◌∷◌, [], ◌++◌, ◌∙◌, suc, Bool, true, false, not, ◌&&◌, ◌||◌, List, Option, Some, None, length, refl, sym, ap, arith, take, drop, get_or, remove, take-append-drop, drop-cons, append-nil, length-append, slice_get, IfNone, IsSome, inl, inr, ℕ, nat_lt, both_ways, false_from_ne_true, list_any-append, started, started_id, taken, finished, unfinished, running, is_among, is_same_id, MachineView, with_event, with_submission, with_finish, with_run, newly_accepted, jobs_in_flight, next_started, plan_of, IsPicked, HasNoneToPick, IsFinishRefusal, Id, Reply, Event, IsAllowed, ids_in_flight, IsRemoved, HavePlans, ReplayPoolInvariant}
use Rattle.std.specs.List.{position, position_or_len}
use Rattle.std.proofs.Math.Seq.{take-length}
use Rattle.std.proofs.lemmas.Grind.{common_steps}
use Rattle.std.proofs.lemmas.List.{map-append}
use Rattle.std.proofs.lemmas.List.Elements.{filter_map-append}
use Rattle.std.proofs.lemmas.Option.{slice_get_past}
use Rattle.resil_decor.specs.Plan.{PlanView}
use Rattle.resil_decor.specs.Run.{RunView}
use Rattle.resil_rule.specs.declared.error.AdmitError.{AdmitError}
use Rattle.resil_rule.specs.declared.error.AdmitError.TheVariants as admit
use Rattle.resil_rule.specs.declared.event.Event.TheVariants as event
use Rattle.resil_admission.specs.declared.jobs.Accepted.{Accepted}
use Rattle.resil_rule.proofs.IdLaws.{among-unfinished, same_id-equal}
use Rattle.resil_admission.proofs.JobLaws.{plan_of-grows, plan_of-with_run}

-- jobs keep their plans, with more jobs, with runs, and with one more of them
pub plans-grow : (jobs more : List Accepted) (line : List (Id × PlanView)) → HavePlans jobs line → HavePlans (jobs ++ more) line
plans-grow jobs more [] have = tt
plans-grow jobs more (job ∷ line) have = (plan_of-grows jobs more job.0 job.1 have.0, plans-grow jobs more line have.1)

plans-with_run : (jobs : List Accepted) (id : Id) (run : RunView) (line : List (Id × PlanView)) → HavePlans jobs line → HavePlans (with_run jobs id run) line
plans-with_run jobs id run [] have = tt
plans-with_run jobs id run (job ∷ line) have = (plan_of-with_run jobs id run job.0 ∙ have.0, plans-with_run jobs id run line have.1)

plans-push : (jobs : List Accepted) (line : List (Id × PlanView)) (id : Id) (plan : PlanView) → HavePlans jobs line → plan_of jobs id ≡ Some plan → HavePlans jobs (line ++ (id, plan) ∷ [])
plans-push jobs [] id plan have known = (known, tt)
plans-push jobs (job ∷ line) id plan have known = (have.0, plans-push jobs line id plan have.1 known)

-- whether an event starts or takes the job of an id
abbrev is_new : Event → Id → Bool
is_new e x = is_among x (started (e ∷ [])) || is_among x (taken (e ∷ []))

-- the jobs that run after one more event
running-more : (h : List Event) (e : Event) (x : Id) → is_among x (running (h ++ e ∷ []))
    ≡ (not (is_among x (finished h) || is_among x (finished (e ∷ []))) && ((is_among x (started h) || is_among x (started (e ∷ []))) || (is_among x (taken h) || is_among x (taken (e ∷ [])))))
running-more h e x = among-unfinished (finished (h ++ e ∷ [])) (started (h ++ e ∷ [])) (taken (h ++ e ∷ [])) x ∙ simp (filter_map-append, list_any-append)

-- a job that runs after one more event ran before it, or is one that the event starts or takes
running-grown : (h : List Event) (e : Event) (x : Id) → is_among x (running (h ++ e ∷ [])) ≡ true → (is_among x (running h) || is_new e x) ≡ true
running-grown h e x runs = grind (arith, running-more h e x, among-unfinished (finished h) (started h) (taken h) x)

-- a job that runs after a finish isn't the one that was finished
running-other : (h : List Event) (id x : Id) → is_among x (running (h ++ event.Finish id ∷ [])) ≡ true → is_same_id x id ≡ false
running-other h id x runs = grind (arith, running-more h (event.Finish id) x)

module _ (m n : MachineView) (out : List (Id × PlanView)) (e : Event) where
  -- one more event, after which the jobs that are out are those that were and that it starts or takes, as far as they run
  kept-more : (after : List (Id × PlanView)) → n.picked ≡ length (started n.history) → n.history ≡ m.history ++ e ∷ [] → HavePlans n.jobs after → ReplayPoolInvariant m out
      → ((x : Id) → is_among x (running (m.history ++ e ∷ [])) ≡ true → (is_among x (ids_in_flight out) || is_new e x) ≡ true → is_among x (ids_in_flight after) ≡ true) → ReplayPoolInvariant n after
  kept-more after picked more plans kept held = record {
    picked = picked;
    held = λ x runs. (
        let runs' : is_among x (running (m.history ++ e ∷ [])) ≡ true = rw more at runs in
        let grown = running-grown m.history e x runs' in
        let was = kept.held x in
        held x runs' (grind (arith, grown, was)));
    plans = plans;
  }

  -- an event that starts and takes no job
  pub kept-same : started (e ∷ []) ≡ [] → taken (e ∷ []) ≡ [] → n.picked ≡ m.picked → n.history ≡ m.history ++ e ∷ [] → HavePlans n.jobs out → ReplayPoolInvariant m out → ReplayPoolInvariant n out
  kept-same no_start no_take picked more plans kept =
      let count : n.picked ≡ length (started n.history) = picked ∙ kept.picked ∙ rw more (simp (filter_map-append, no_start, append-nil)) in
      kept-more out count more plans kept (λ x runs among. (let same = rw (no_start, no_take) at among in grind (arith, same)))

  -- an event that starts or takes the job that is added to those that are out
  kept-push : (id : Id) (plan : PlanView) → ((x : Id) → is_new e x ≡ true → is_same_id x id ≡ true)
      → n.picked ≡ length (started n.history) → n.history ≡ m.history ++ e ∷ [] → HavePlans n.jobs out → plan_of n.jobs id ≡ Some plan → ReplayPoolInvariant m out → ReplayPoolInvariant n (out ++ (id, plan) ∷ [])
  kept-push id plan own picked more plans known kept =
      kept-more (out ++ (id, plan) ∷ []) picked more (plans-push n.jobs out id plan plans known) kept (λ x runs among. (let new = own x in simp (map-append, list_any-append) (grind (arith, among, new))))

last : {A : Type 0} (xs : List A) (x : A) → slice_get (xs ++ x ∷ []) (length xs) ≡ Some x
last [] x = refl
last (y ∷ xs) x = last xs x

-- a submission for which a worker is started
module _ (m : MachineView) (out : List (Id × PlanView)) (id : Id) (reply : Reply) (plan : PlanView) (kept : ReplayPoolInvariant m out) (one : started (event.Submit id reply ∷ []) ≡ id ∷ []) where
  -- its job is the next with a worker of its own
  pub next-submitted : next_started (with_submission m id reply plan) ≡ Some id
  next-submitted = rw (filter_map-append started_id m.history (event.Submit id reply ∷ []), one, kept.picked) (last (started m.history) id)

  -- and is picked at once
  pub picked-submitted : (n : MachineView) (other : Id) → IsPicked (with_submission m id reply plan) other n → (other ≡ id) × (n ≡ record (with_submission m id reply plan) { picked = m.picked + 1 })
  picked-submitted n other (inl picked) = (cc (picked.0, next-submitted), picked.1)
  picked-submitted n other (inr taken_) = absurd (cc (taken_.0, next-submitted))

  pub submitted-kept : (n : MachineView) (other : Id) (job : PlanView) → IsPicked (with_submission m id reply plan) other n → plan_of (with_submission m id reply plan).jobs other ≡ Some job → ReplayPoolInvariant n (out ++ (other, job) ∷ [])
  submitted-kept n other job picked known =
      let at = picked-submitted n other picked in
      let count : m.picked + 1 ≡ length (started (m.history ++ event.Submit id reply ∷ [])) = rw (filter_map-append started_id m.history (event.Submit id reply ∷ []), one, length-append) (omega (arith, kept.picked)) in
      rw at.1
      (kept-push m (record (with_submission m id reply plan) { picked = m.picked + 1 }) out (event.Submit id reply) other job
      (λ x new. (let own = rw one at new in rw at.0 (grind (arith, own))))
      count refl (plans-grow m.jobs (newly_accepted id reply plan) out kept.plans) known kept)

-- where every job with a worker of its own is picked, the next one is taken from the queue
pub picked-taken : (m n : MachineView) (out : List (Id × PlanView)) (id : Id) → ReplayPoolInvariant m out → IsPicked m id n → IsAllowed m.limits m.history (event.Take id) × (n ≡ with_event m (event.Take id))
picked-taken m n out id kept (inl picked) =
    let past : next_started m ≡ None = slice_get_past (started m.history) m.picked (omega (arith, kept.picked)) in
    absurd (cc (picked.0, past))
picked-taken m n out id kept (inr taken_) = (taken_.1, taken_.2)

pub taken-kept : (m n : MachineView) (out : List (Id × PlanView)) (id : Id) (job : PlanView) → ReplayPoolInvariant m out → IsPicked m id n → plan_of m.jobs id ≡ Some job → ReplayPoolInvariant n (out ++ (id, job) ∷ [])
taken-kept m n out id job kept picked known =
    let at = picked-taken m n out id kept picked in
    let count : m.picked ≡ length (started (m.history ++ event.Take id ∷ [])) = rw (filter_map-append started_id m.history (event.Take id ∷ []), append-nil) kept.picked in
    rw at.1 (kept-push m (with_event m (event.Take id)) out (event.Take id) id job (λ x new. grind (arith, new)) count refl kept.plans known kept)

plans-split : (jobs : List Accepted) (front : List (Id × PlanView)) (job : Id × PlanView) (rest : List (Id × PlanView)) → HavePlans jobs (front ++ job ∷ rest)
    → (plan_of jobs job.0 ≡ Some job.1) × HavePlans jobs (front ++ rest)
plans-split jobs [] job rest have = have
plans-split jobs (j ∷ front) job rest have = let more = plans-split jobs front job rest have.1 in (more.0, (have.0, more.1))

-- a job that is taken out
module _ (m : MachineView) (out left : List (Id × PlanView)) (id : Id) (plan : PlanView) (kept : ReplayPoolInvariant m out) (removed : IsRemoved out id plan left) where
  pub plan-out : plan_of m.jobs id ≡ Some plan
  plan-out = (plans-split m.jobs removed.0 (id, plan) removed.1 (rw removed.2 at kept.plans)).0

  plans-left : HavePlans m.jobs left
  plans-left = rw removed.3 ((plans-split m.jobs removed.0 (id, plan) removed.1 (rw removed.2 at kept.plans)).1)

  -- the others are still out
  out-left : (x : Id) → is_same_id x id ≡ false → is_among x (ids_in_flight out) ≡ true → is_among x (ids_in_flight left) ≡ true
  out-left x other among =
      let parts = simp (map-append, list_any-append) at (rw removed.2 at among) in
      rw removed.3 (simp (map-append, list_any-append) (grind (arith, other, parts)))

  -- it is finished
  pub finished-kept : (run : RunView) → ReplayPoolInvariant (with_finish m id run) left
  finished-kept run =
      let count : m.picked ≡ length (started (m.history ++ event.Finish id ∷ [])) = rw (filter_map-append started_id m.history (event.Finish id ∷ []), append-nil) kept.picked in
      kept-more m (with_finish m id run) out (event.Finish id) left count refl (plans-with_run m.jobs id run left plans-left) kept
      (λ x runs among. out-left x (running-other m.history id x runs) (grind (arith, among)))

  -- it doesn't run
  pub left-kept : is_among id (running m.history) ≡ false → ReplayPoolInvariant m left
  left-kept idle = record {
    picked = kept.picked;
    held = λ x runs. out-left x (false_from_ne_true _ (λ same. both_ways _ idle (rw (same_id-equal x id same) at runs))) (kept.held x runs);
    plans = plans-left;
  }

-- where every job with a worker of its own is picked, the jobs that are out are those that run
pub out-running : (m : MachineView) (out : List (Id × PlanView)) → ReplayPoolInvariant m out → jobs_in_flight m ≡ running m.history
out-running m out kept = ap (λ n. unfinished m.history (take n (started m.history) ++ taken m.history)) kept.picked ∙ rw take-length refl

-- why the run of a job's own plan isn't ended: the job doesn't run
pub refused-idle : (m : MachineView) (out : List (Id × PlanView)) (id : Id) (plan : PlanView) (why : AdmitError) → ReplayPoolInvariant m out → plan_of m.jobs id ≡ Some plan → IsFinishRefusal m id plan why
    → is_among id (running m.history) ≡ false
refused-idle m out id plan admit.NotOut kept known refusal = rw (← out-running m out kept) refusal
refused-idle m out id plan admit.OtherJob kept known refusal = absurd (refusal.3 (cc (refusal.2, known)))
refused-idle m out id plan why kept known refusal = absurd refusal

-- if no job that is out has an id, none of this id runs
pub idle-where-none : (m : MachineView) (out : List (Id × PlanView)) (id : Id) → ReplayPoolInvariant m out → is_among id (ids_in_flight out) ≡ false → is_among id (running m.history) ≡ false
idle-where-none m out id kept none = false_from_ne_true _ (λ runs. both_ways _ none (kept.held id runs))

-- if no index of a job with an id is found, no job of that id is out
among-at : (id : Id) (out : List (Id × PlanView)) → is_among id (ids_in_flight out) ≡ nat_lt (position_or_len (λ job. is_same_id id job.0) out) (length out)
among-at id [] = refl
among-at id (job ∷ out) = grind (arith, among-at id out)

pub none-placed : (id : Id) (out : List (Id × PlanView)) → position (λ job. is_same_id id job.0) out ≡ None → is_among id (ids_in_flight out) ≡ false
none-placed id out none = among-at id out ∙ grind (arith, common_steps, none)

pub placed : (id : Id) (out : List (Id × PlanView)) (i : ℕ) (d : Id × PlanView) → i < length out → is_same_id id (get_or out i d).0 ≡ true → IsRemoved out id (get_or out i d).1 (remove out i)
placed id out i d within same =
    let own : id ≡ (get_or out i d).0 = same_id-equal id (get_or out i d).0 same in
    let whole : out ≡ take i out ++ (id, (get_or out i d).1) ∷ drop (suc i) out =
    rw own (sym (take-append-drop i out) ∙ ap (λ rest. take i out ++ rest) (drop-cons out i d within)) in
    (take i out, drop (suc i) out, whole, refl)

-- where a job with a worker of its own isn't picked yet, a pick finds one
pub found : (r : Option (Id × PlanView)) (m : MachineView) (id : Id) → IfNone r (HasNoneToPick m) → next_started m ≡ Some id → IsSome r
found None m id none next = absurd (cc (next, none.0))
found (Some p) m id none next = refl
