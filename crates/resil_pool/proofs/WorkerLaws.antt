-- What a worker's turns show of the log that its seat has seen, and what all its rounds leave.
use Rattle.std.proofs.Common.{◌≡◌, ⊎_elim, inl, inr, ℕ, get_or, Bool, true, false, not, cond, List, [], ◌∷◌, ◌++◌, map, filter, refl, sym, ap, ◌∙◌, subst, append-nil, append_assoc, arith, Option, Some, None}
use Rattle.std.specs.Prelude.{option_map, find, All, Contains}
use Rattle.std.specs.Option.{option_or}
use Rattle.std.proofs.lemmas.List.Folds.{find-append}
use Rattle.std.proofs.lemmas.Option.{none-some, same_Some}
use Rattle.std.proofs.lemmas.List.{map-append, map_push}
use Rattle.std.proofs.lemmas.List.Concat.{flat_map-append}
use Rattle.std.proofs.lemmas.List.Elements.{All-nil, All-push, Contains-append_left, Contains-push, filter-append}
use Rattle.resil_lock.specs.declared.work.Look.{Look}
use Rattle.resil_lock.specs.declared.work.Look.TheVariants.{Found, Over}
use Rattle.resil_lock.specs.Work.{AfterRounds, OnFound, OnNothing, OnOver}
use Rattle.resil_lock.proofs.RoundLaws.{after-rounds}
use Rattle.resil_permit.proofs.Log.Prefixes.{prefix_trans}
use Rattle.resil_pool.specs.Words.{PlanView, RunView, Asked, is_same_id, MachineView, plan_of, Accepted, Id, Take, IdleEnd, Row, LoggedEvent}
use Rattle.resil_pool.specs.declared.worker.WorkerRounds.{WorkerRounds}
use Rattle.resil_pool.specs.Lock.{log_event, start_of, finish_of, plans_in, plan_entry, runs_in, LockSeatState, IsDue, Tallies, Takes, WritesAtMost}
use Rattle.resil_pool.proofs.Logs.{plans_in-append}
use Rattle.resil_pool.proofs.TurnLaws.{HasTurn, MayHave, Turned, either, IsQuiet, takes-now, runs-now, tallies-now}
use Rattle.resil_pool.specs.Worker.{KeepsPlan, HasRunTakes, RunsItsTakes, TakesAtMost, takes_in, asked_in, first_refused, HasRunJob, HasRunNone, HasRunOne, HasMadeRound, HasWorked}

-- jobs with the same plans in the same order have the same plan under an id, whatever comes after them
same_plan : (jobs others : List Accepted) (more : List (Id × Option PlanView)) (id : Id) (plan : PlanView) → map plan_entry others ≡ map plan_entry jobs ++ more → plan_of jobs id ≡ Some plan → plan_of others id ≡ Some plan
same_plan [] others more id plan same there = absurd (none-some plan there)
same_plan (job ∷ jobs) [] more id plan same there = absurd (cc same)
same_plan (job ∷ jobs) (other ∷ others) more id plan same there =
    let head : plan_entry other ≡ plan_entry job = cc same in
    let tail : map plan_entry others ≡ map plan_entry jobs ++ more = cc same in
    let here : is_same_id id other.id ≡ is_same_id id job.id = ap (λ (entry : Id × Option PlanView). is_same_id id entry.0) head in
    let plans : other.plan ≡ job.plan = same_Some other.plan job.plan (ap (λ (entry : Id × Option PlanView). entry.1) head) in
    go (is_same_id id job.id) here plans there (same_plan jobs others more id plan tail)
  where
    go : (b : Bool) → is_same_id id other.id ≡ b → other.plan ≡ job.plan → option_map (λ (j : Accepted). j.plan) (cond b (Some job) (find (λ (j : Accepted). is_same_id id j.id) jobs)) ≡ Some plan → (plan_of jobs id ≡ Some plan → plan_of others id ≡ Some plan)
        → plan_of (other ∷ others) id ≡ Some plan
    go true is plans found rest = ap (λ (c : Bool). option_map (λ (j : Accepted). j.plan) (cond c (Some other) (find (λ (j : Accepted). is_same_id id j.id) others))) is ∙ (ap (λ (p : PlanView). Some p) plans ∙ found)
    go false is plans found rest = ap (λ (c : Bool). option_map (λ (j : Accepted). j.plan) (cond c (Some other) (find (λ (j : Accepted). is_same_id id j.id) others))) is ∙ rest found

-- the plan that the seat saw kept in the log is the one that the machine has
pub known_plan : (old me : LockSeatState) (machine : MachineView) (id : Id) (plan : PlanView) → HasTurn old machine me → KeepsPlan old.0.seen id plan → plan_of machine.jobs id ≡ Some plan
known_plan old me machine id plan took known =
    let later = took.begins.0 in
    let entries : map plan_entry machine.jobs ≡ map plan_entry known.jobs ++ plans_in later =
    took.home.home.plans ∙ (ap plans_in (sym took.begins.1) ∙ (plans_in-append old.0.seen later ∙ ap (λ (xs : List (Id × Option PlanView)). xs ++ plans_in later) (sym known.kept))) in
    same_plan known.jobs machine.jobs (plans_in later) id plan entries known.there

pub on_nothing : (look : Look (Id × PlanView)) (P Q : Type 0) → (P → Q) → OnNothing look P → OnNothing look Q
on_nothing (Found picked) P Q f p = tt
on_nothing _ P Q f p = f p

pub on_found : (look : Look (Id × PlanView)) (P Q : Id × PlanView → Type 0) → ((picked : Id × PlanView) → P picked → Q picked) → OnFound look P → OnFound look Q
on_found (Found picked) P Q f p = f picked p
on_found _ P Q f p = tt

pub on_over : (look : Look (Id × PlanView)) (P Q : Type 0) → (P → Q) → OnOver look P → OnOver look Q
on_over Over P Q f p = f p
on_over _ P Q f p = tt

-- whether a poll found a job or not, it ended none
pub look-quiet : (callers number : ℕ) (look : Look (Id × PlanView)) (entries : List LoggedEvent) → OnFound look (λ picked. Takes picked.0 entries) → OnNothing look (WritesAtMost IdleEnd entries) → IsQuiet callers number entries
look-quiet callers number (Found picked) entries takes rests = either (IsQuiet callers number) (record { may = (tt, tt); own = refl; ends = refl; runs = refl }) (record { may = (tt, tt); own = refl; ends = refl; runs = refl }) takes
look-quiet callers number _ entries takes rests = either (IsQuiet callers number) (record { may = tt; own = refl; ends = refl; runs = refl }) (record { may = (tt, tt); own = refl; ends = refl; runs = refl }) rests

-- what a seat's turn picked, by what it wrote
module _ {old : LockSeatState} {m : MachineView} {entries : List LoggedEvent} {m' : MachineView} {new : LockSeatState} (t : Turned old m entries m' new) where
  pub took-most : (id : Id) → Takes id entries → TakesAtMost id (takes_in old.0.own) (takes_in new.0.own)
  took-most id takes = subst (TakesAtMost id (takes_in old.0.own)) (sym (takes-now t)) (either (λ xs. TakesAtMost id (takes_in old.0.own) (takes_in old.0.own ++ takes_in xs)) (inl (append-nil (takes_in old.0.own))) (inr refl) takes)

  pub took-none : WritesAtMost IdleEnd entries → takes_in new.0.own ≡ takes_in old.0.own
  took-none rests = takes-now t ∙ either (λ xs. takes_in old.0.own ++ takes_in xs ≡ takes_in old.0.own) (append-nil (takes_in old.0.own)) (append-nil (takes_in old.0.own)) rests

  pub picked-one : (id : Id) → Takes id entries → Tallies old.0.own (id ∷ []) [] new.0.own
  picked-one id takes = ⊎_elim (tallies-now t (start_of id ∷ [])) (tallies-now t (log_event None (Take id) ∷ [])) takes

  pub picked-none : WritesAtMost IdleEnd entries → Tallies old.0.own [] [] new.0.own
  picked-none rests = ⊎_elim (tallies-now t []) (tallies-now t (log_event None IdleEnd ∷ [])) rests

  pub ended-none : IsQuiet old.0.key.callers old.0.number entries → runs_in new.0.own ≡ runs_in old.0.own
  ended-none quiet = runs-now t ∙ (ap (λ (rows : List Row). runs_in old.0.own ++ rows) quiet.runs ∙ append-nil (runs_in old.0.own))

-- the end of a job that the seat had picked
pub may-end : (old : LockSeatState) (id : Id) (run : RunView) (entries : List LoggedEvent) → entries ≡ finish_of id run ∷ [] → IsDue id old.0.own → MayHave old entries
may-end old id run entries is due = subst (MayHave old) (sym is) (record { may = (tt, tt); due = λ x. let d = due x in omega (arith, d) })

-- the first of two
option_map-or : {A B : Type 0} (f : A → B) (x y : Option A) → option_map f (option_or x y) ≡ option_or (option_map f x) (option_map f y)
option_map-or f None y = refl
option_map-or f (Some x) y = refl

-- each job that was taken is among those that were run
takes-more : (before between after : List Id) (made : List (Row × Bool)) (last : Row × Bool) → RunsItsTakes before between made → TakesAtMost last.0.id between after → RunsItsTakes before after (made ++ last ∷ [])
takes-more before between after made last so_far most =
    let ids = map (λ (m : Row × Bool). m.0.id) made in
    let kept : All (λ id. Contains (map (λ (m : Row × Bool). m.0.id) (made ++ last ∷ [])) id) so_far.0 =
    λ k d within. subst (λ (xs : List Id). Contains xs (get_or so_far.0 k d)) (sym (map_push (λ (m : Row × Bool). m.0.id) made last)) (Contains-append_left ids (last.0.id ∷ []) (get_or so_far.0 k d) (so_far.2 k d within)) in
    ⊎_elim
    (λ (e : after ≡ between). (so_far.0, e ∙ so_far.1, kept))
    (λ (e : after ≡ between ++ last.0.id ∷ []). (
      so_far.0 ++ last.0.id ∷ [],
      e ∙ (ap (λ (xs : List Id). xs ++ last.0.id ∷ []) so_far.1 ∙ append_assoc before so_far.0 (last.0.id ∷ [])),
      All-push (λ id. Contains (map (λ (m : Row × Bool). m.0.id) (made ++ last ∷ [])) id) so_far.0 last.0.id kept (subst (λ (xs : List Id). Contains xs last.0.id) (sym (map_push (λ (m : Row × Bool). m.0.id) made last)) (Contains-push ids last.0.id)),
    ))
    most

pub run_takes-none : {P : Type 0} (Between : P → List Asked → P → Type 0) (permitter : P) (runs : List Row) (takes : List Id) → Between permitter [] permitter → HasRunTakes Between permitter permitter runs runs takes takes None
run_takes-none Between permitter runs takes none = (record { made = []; answered = none; ended = sym (append-nil runs) }, refl, ([], sym (append-nil takes), All-nil (λ id. Contains [] id)))

-- one job more was run with the permitter, and kept
pub run_takes-more : {P : Type 0} (Between : P → List Asked → P → Type 0) (first now next : P) (before runs after : List Row) (takes between takes' : List Id) (id : Id) (job : PlanView)
    → ((x y z : P) (a b : List Asked) → Between x a y → Between y b z → Between x (a ++ b) z)
    → HasRunTakes Between first now before runs takes between None → HasRunJob Between now next id job runs after → TakesAtMost id between takes' → HasRunTakes Between first next before after takes takes' None
run_takes-more Between first now next before runs after takes between takes' id job append so_far one most =
    let row : Row = record { id = id; run = one.run } in
    let last : Row × Bool = (row, true) in
    let made = so_far.0.made in
    let row_of : Row × Bool → Row = λ m. m.0 in
    let run_of_row : Row × Bool → RunView = λ m. m.0.run in
    let was_kept : Row × Bool → Bool = λ m. m.1 in
    let was_refused : Row × Bool → Bool = λ m. not m.1 in
    let asked : asked_in (map row_of (made ++ last ∷ [])) ≡ asked_in (map row_of made) ++ one.run.asked =
    ap asked_in (map-append row_of made (last ∷ [])) ∙ (flat_map-append (λ (r : Row). r.run.asked) (map row_of made) (row ∷ []) ∙ ap (λ (xs : List Asked). asked_in (map row_of made) ++ xs) (append-nil one.run.asked)) in
    let kept : map row_of (filter was_kept (made ++ last ∷ [])) ≡ map row_of (filter was_kept made) ++ row ∷ [] =
    ap (map row_of) (filter-append was_kept made (last ∷ [])) ∙ map-append row_of (filter was_kept made) (last ∷ []) in
    let first_of : first_refused (made ++ last ∷ []) ≡ option_or (first_refused made) None =
    ap (option_map run_of_row) (find-append was_refused made (last ∷ [])) ∙ option_map-or run_of_row (find was_refused made) None in (
      record {
        made = made ++ last ∷ [];
        answered = subst (λ (xs : List Asked). Between first xs next) (sym asked) (append first now next (asked_in (map row_of made)) one.run.asked so_far.0.answered one.answered);
        ended = one.ended
            ∙ (ap (λ (xs : List Row). xs ++ row ∷ []) so_far.0.ended
            ∙ (append_assoc before (map row_of (filter was_kept made)) (row ∷ []) ∙ ap (λ (xs : List Row). before ++ xs) (sym kept)));
      },
      sym (first_of ∙ ap (λ (o : Option RunView). option_or o None) (sym so_far.1)),
      takes-more takes between takes' made last so_far.2 most,
    )

-- what all rounds of a worker leave, by what each of them does
module _ {P H : Type 0} (Between : P → List Asked → P → Type 0) (held : P → ℕ → ℕ) where
  -- what one round leaves of a worker at work
  abbrev HasGone : WorkerRounds P H → WorkerRounds P H → Type 0
  HasGone x y =
      (y.pool ≡ x.pool) × (y.seat.ghost_name ≡ x.seat.ghost_name) × (y.permitter.ghost_name ≡ x.permitter.ghost_name) × (y.seat.now.table_id ≡ x.seat.now.table_id)
      × HasMadeRound Between held x.permitter.now y.permitter.now x.seat.now.me.0 y.seat.now.me.0

  module _ (none : (p : P) → Between p [] p) (append : (p q r : P) (front back : List Asked) → Between p front q → Between q back r → Between p (front ++ back) r) where
    stays : (x : WorkerRounds P H) → HasWorked Between held x x
    stays x = record {
      pool = refl;
      seat = refl;
      permitter = refl;
      table = refl;
      limits = refl;
      begins = ([], append-nil _);
      took = run_takes-none Between _ _ _ (none _);
      holds = λ id. refl;
    }

    both : (x y z : WorkerRounds P H) → HasWorked Between held x y → HasGone y z → HasWorked Between held x z
    both x y z a b = record {
      pool = b.0 ∙ a.pool;
      seat = b.1 ∙ a.seat;
      permitter = b.2 ∙ a.permitter;
      table = b.3 ∙ a.table;
      limits = b.4.limits ∙ a.limits;
      begins = prefix_trans _ _ _ a.begins b.4.begins;
      took = ⊎_elim
          (λ (n : HasRunNone y.permitter.now z.permitter.now (runs_in y.seat.now.me.0.own) (runs_in z.seat.now.me.0.own) (takes_in y.seat.now.me.0.own) (takes_in z.seat.now.me.0.own)).
          subst (λ (t : P × (List Row × List Id)). HasRunTakes Between x.permitter.now t.0 (runs_in x.seat.now.me.0.own) t.1.0 (takes_in x.seat.now.me.0.own) t.1.1 None)
          (λ j. (sym n.unasked j, (sym n.ended j, sym n.took_none j))) a.took)
          (λ (o : HasRunOne Between y.permitter.now z.permitter.now (runs_in y.seat.now.me.0.own) (runs_in z.seat.now.me.0.own) (takes_in y.seat.now.me.0.own) (takes_in z.seat.now.me.0.own)).
          run_takes-more Between _ _ _ _ _ _ _ _ _ o.id o.job append a.took o.ran o.took)
          b.4.ran;
      holds = λ id. b.4.holds id ∙ a.holds id;
    }

    pub went : (rounds : ℕ) (x y : WorkerRounds P H) → AfterRounds HasGone rounds x y → HasWorked Between held x y
    went = after-rounds HasGone (HasWorked Between held) stays both
