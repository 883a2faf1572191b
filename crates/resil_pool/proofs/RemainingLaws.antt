-- The jobs that a drain runs itself: what its picks and finishes leave, and that each run is accepted.
use Rattle.std.proofs.Common.{◌≡◌, ◌≤◌, ◌<◌, ◌+◌, ⊎_elim, ℕ, zero, suc, Bool, true, false, ◌||◌, cond, List, [], ◌∷◌, ◌++◌, map, take, length, get_or, refl, sym, ap, ◌∙◌, subst, append-nil, append_assoc, length-append, arith, Option, Some, Result, Ok, Err, IfOk}
use Rattle.std.specs.Prelude.{All, Contains, find, option_map}
use Rattle.std.proofs.lemmas.Bool.{and_parts, false_from_ne_true, not-true}
use Rattle.std.proofs.lemmas.Option.{none-some, same_Some}
use Rattle.std.proofs.lemmas.List.{map-append}
use Rattle.std.proofs.lemmas.List.Concat.{flat_map-append}
use Rattle.std.proofs.lemmas.List.Elements.{filter-append, filter_map-append, All-append, All-push, All-nil}
use Rattle.std.proofs.lemmas.List.Folds.{list_any-append}
use Rattle.resil_rule.proofs.EventLaws.{or-of}
use Rattle.resil_rule.proofs.IdLaws.{same_id-equal, same_id-self, among-unfinished}
use Rattle.resil_rule.proofs.LegalLaws.{legal-push}
use Rattle.resil_rule.proofs.TimesLaws.{times-append}
use Rattle.resil_rule.proofs.UnpickedLaws.{filtered-same}
use Rattle.resil_permit.proofs.Log.Prefixes.{prefix_trans}
use Rattle.resil_pool.specs.Words.{IsPrefix, PlanView, RunView, Asked, IsLegal, is_submit_of, submissions, is_same_id, is_among, times, finished, finished_id, started, started_id, taken, taken_id, MachineView, jobs_in_flight, plan_of, with_run, with_finish, IsPicked, AreResultsOf, Accepted, Id, Event, Take, Finish, Row}
use Rattle.resil_pool.specs.Lock.{run_of, starts_of, EndsOnlyPicked}
use Rattle.resil_pool.specs.Worker.{asked_in}
use Rattle.resil_pool.specs.Draining.{with_runs, picks, HasRunOn, Ran, RanInDrain}
use Rattle.resil_pool.proofs.MachineCalls.{out_runs}
use Rattle.resil_pool.proofs.NamedCallers.{pick_names, finish_names}
use Rattle.resil_pool.proofs.Logs.{due-out, take-next}

-- what the pick of a job leaves
pub record LeftByPick (old new : MachineView) (id : Id) : Type 0 where
  pub limits : new.limits ≡ old.limits
  pub begins : IsPrefix old.history new.history
  pub legal : IsLegal old.limits old.history → IsLegal new.limits new.history
  pub finished : finished new.history ≡ finished old.history
  pub submissions : (caller : ℕ) → submissions new.history caller ≡ submissions old.history caller
  pub jobs : new.jobs ≡ old.jobs
  pub one_more : picks new ≡ picks old + 1
  pub picked : (x : Id) → times x (starts_of new) + times x (taken new.history) ≡ times x (starts_of old) + times x (taken old.history) + times x (id ∷ [])

pub left_by_pick : (old new : MachineView) (id : Id) → IsPicked old id new → LeftByPick old new id
left_by_pick old new id picked = ⊎_elim
    (λ t. record {
      limits = ap (λ (m : MachineView). m.limits) t.1;
      begins = ([], append-nil old.history ∙ sym (ap (λ (m : MachineView). m.history) t.1));
      legal = subst (λ (m : MachineView). IsLegal m.limits m.history) (sym t.1);
      finished = ap (λ (m : MachineView). finished m.history) t.1;
      submissions = λ caller. ap (λ (m : MachineView). submissions m.history caller) t.1;
      jobs = ap (λ (m : MachineView). m.jobs) t.1;
      one_more = ap picks t.1 ∙ omega arith;
      picked = λ x.
          let suc_is : suc old.picked ≡ old.picked + 1 = omega arith in
          let started_one : starts_of new ≡ starts_of old ++ id ∷ [] = ap starts_of t.1 ∙ (ap (λ (n : ℕ). take n (started old.history)) (sym suc_is) ∙ take-next old.picked (started old.history) id t.0) in
          let starts : times x (starts_of new) ≡ times x (starts_of old) + times x (id ∷ []) = ap (times x) started_one ∙ times-append x (starts_of old) (id ∷ []) in
          let takes : times x (taken new.history) ≡ times x (taken old.history) = ap (λ (m : MachineView). times x (taken m.history)) t.1 in
          omega (arith, starts, takes);
    })
    (λ t. record {
      limits = ap (λ (m : MachineView). m.limits) t.2;
      begins = (Take id ∷ [], sym (ap (λ (m : MachineView). m.history) t.2));
      legal = λ before. subst (λ (m : MachineView). IsLegal m.limits m.history) (sym t.2) (legal-push old.limits old.history (Take id) before t.1);
      finished = ap (λ (m : MachineView). finished m.history) t.2 ∙ filtered-same finished_id old.history (Take id) refl;
      submissions = λ caller. ap (λ (m : MachineView). submissions m.history caller) t.2 ∙ (filter-append (is_submit_of caller) old.history (Take id ∷ []) ∙ append-nil (submissions old.history caller));
      jobs = ap (λ (m : MachineView). m.jobs) t.2;
      one_more = ap picks t.2
          ∙ (ap (λ (ids : List Id). old.picked + length ids) (filter_map-append taken_id old.history (Take id ∷ []))
          ∙ (ap (λ (n : ℕ). old.picked + n) (length-append (taken old.history) (id ∷ [])) ∙ omega arith));
      picked = λ x.
          let starts : times x (starts_of new) ≡ times x (starts_of old) = ap (times x) (ap starts_of t.2 ∙ ap (take old.picked) (filtered-same started_id old.history (Take id) refl)) in
          let takes : times x (taken new.history) ≡ times x (taken old.history) + times x (id ∷ []) = ap (λ (m : MachineView). times x (taken m.history)) t.2
          ∙ (ap (times x) (filter_map-append taken_id old.history (Take id ∷ [])) ∙ times-append x (taken old.history) (id ∷ [])) in
          omega (arith, starts, takes);
    })
    picked

-- one more job was picked, and finished
pub ran_on : (old m picked new : MachineView) (id : Id) (run : RunView) → HasRunOn old m → IsPicked m id picked → new ≡ with_finish picked id run → HasRunOn old new
ran_on old m picked new id run so_far pick is =
    let left = left_by_pick m picked id pick in
    let ends : length (finished new.history) ≡ length (finished picked.history) + 1 =
    ap (λ (x : MachineView). length (finished x.history)) is ∙ (ap length (filter_map-append finished_id picked.history (Finish id ∷ [])) ∙ length-append (finished picked.history) (id ∷ [])) in
    let before : length (finished picked.history) ≡ length (finished m.history) = ap length left.finished in
    let same : picks new ≡ picks picked = ap picks is ∙ ap (λ (ids : List Id). picked.picked + length ids) (filtered-same taken_id picked.history (Finish id) refl) in
    let one = left.one_more in
    let even = so_far.even in record {
      limits = ap (λ (x : MachineView). x.limits) is ∙ (left.limits ∙ so_far.limits);
      begins = prefix_trans old.history picked.history new.history (prefix_trans old.history m.history picked.history so_far.begins left.begins) (Finish id ∷ [], sym (ap (λ (x : MachineView). x.history) is));
      even = omega (arith, even, one, same, before, ends);
      names = λ callers names. finish_names callers picked new id run is (pick_names callers m picked id pick (so_far.names callers names));
      submissions = λ caller. ap (λ (x : MachineView). submissions x.history caller) is
          ∙ (filter-append (is_submit_of caller) picked.history (Finish id ∷ []) ∙ (append-nil (submissions picked.history caller) ∙ (left.submissions caller ∙ so_far.submissions caller)));
    }

-- the run of a job is kept under its id, and the runs of others stay
pub run_of-with_run : (jobs : List Accepted) (id : Id) (run : RunView) (plan : PlanView) → plan_of jobs id ≡ Some plan → run_of (with_run jobs id run) id ≡ Some run
run_of-with_run [] id run plan there = absurd (none-some plan there)
run_of-with_run (job ∷ jobs) id run plan there = cases (is_same_id id job.id) refl there (run_of-with_run jobs id run plan)
  where
    cases : (b : Bool) → is_same_id id job.id ≡ b → option_map (λ (j : Accepted). j.plan) (cond b (Some job) (find (λ j. is_same_id id j.id) jobs)) ≡ Some plan → (plan_of jobs id ≡ Some plan → run_of (with_run jobs id run) id ≡ Some run)
        → run_of (cond b ((record job { run = Some run }) ∷ jobs) (job ∷ with_run jobs id run)) id ≡ Some run
    cases true is there rest = ap (λ (c : Bool). cond c (Some run) (run_of jobs id)) is
    cases false is there rest = ap (λ (c : Bool). cond c job.run (run_of (with_run jobs id run) id)) is ∙ rest there

run_of-other : (jobs : List Accepted) (id other : Id) (run : RunView) → is_same_id other id ≡ false → run_of (with_run jobs id run) other ≡ run_of jobs other
run_of-other [] id other run apart = refl
run_of-other (job ∷ jobs) id other run apart = cases (is_same_id id job.id) refl (run_of-other jobs id other run apart)
  where
    cases : (b : Bool) → is_same_id id job.id ≡ b → run_of (with_run jobs id run) other ≡ run_of jobs other → run_of (cond b ((record job { run = Some run }) ∷ jobs) (job ∷ with_run jobs id run)) other ≡ run_of (job ∷ jobs) other
    cases true is rest =
        let apart_here : is_same_id other job.id ≡ false = ap (is_same_id other) (sym (same_id-equal id job.id is)) ∙ apart in
        ap (λ (c : Bool). cond c (Some run) (run_of jobs other)) apart_here ∙ sym (ap (λ (c : Bool). cond c job.run (run_of jobs other)) apart_here)
    cases false is rest = ap (λ (r : Option RunView). cond (is_same_id other job.id) job.run r) rest

-- a job that is out isn't finished
out_unfinished : (m : MachineView) (id : Id) → is_among id (jobs_in_flight m) ≡ true → is_among id (finished m.history) ≡ false
out_unfinished m id out = not-true (is_among id (finished m.history)) (and_parts _ _ (sym (among-unfinished (finished m.history) (take m.picked (started m.history)) (taken m.history) id) ∙ out)).0

-- an id that is among others is another than one that isn't
among_apart : (ids : List Id) (id other : Id) → is_among id ids ≡ false → is_among other ids ≡ true → is_same_id other id ≡ false
among_apart ids id other out inside = false_from_ne_true (is_same_id other id) (λ same.
    let no : true ≡ false = sym inside ∙ (ap (λ (x : Id). is_among x ids) (same_id-equal other id same) ∙ out) in cc)

among_self : (rows : List Row) (k : ℕ) (d : Row) → k < length rows → is_among (get_or rows k d).id (map (λ row. row.id) rows) ≡ true
among_self [] k d h = absurd (omega arith)
among_self (row ∷ rows) zero d h = ap (λ (b : Bool). b || is_among row.id (map (λ r. r.id) rows)) (same_id-self row.id)
among_self (row ∷ rows) (suc k) d h = or-of (is_same_id (get_or rows k d).id row.id) _ (among_self rows k d (omega arith))

with_runs-append : (jobs : List Accepted) (made : List Row) (row : Row) → with_runs jobs (made ++ row ∷ []) ≡ with_run (with_runs jobs made) row.id row.run
with_runs-append jobs [] row = refl
with_runs-append jobs (first ∷ made) row = with_runs-append (with_run jobs first.id first.run) made row

-- one more job was picked, run and finished
pub ran_one_more : {P : Type 0} (Between : P → List Asked → P → Type 0) (first now next : P) (old m picked new : MachineView) (made : List Row) (id : Id) (run : RunView) (plan : PlanView)
    → ((x y z : P) (a b : List Asked) → Between x a y → Between y b z → Between x (a ++ b) z)
    → Ran Between first old made now m → LeftByPick m picked id → is_among id (jobs_in_flight picked) ≡ true → plan_of picked.jobs id ≡ Some plan → new ≡ with_finish picked id run → Between now run.asked next
    → Ran Between first old (made ++ record { id = id; run = run } ∷ []) next new
ran_one_more Between first now next old m picked new made id run plan append ran left out there is answered =
    let row : Row = record { id = id; run = run } in
    let history : finished new.history ≡ finished picked.history ++ id ∷ [] = ap (λ (x : MachineView). finished x.history) is ∙ filter_map-append finished_id picked.history (Finish id ∷ []) in
    let jobs : new.jobs ≡ with_run m.jobs id run = ap (λ (x : MachineView). x.jobs) is ∙ ap (λ (xs : List Accepted). with_run xs id run) left.jobs in
    let before : finished picked.history ≡ finished old.history ++ map (λ r. r.id) made = left.finished ∙ ran.finished in
    let fresh = out_unfinished picked id out in
    let P' : Row → Type 0 = λ r. run_of new.jobs r.id ≡ Some r.run in
    let earlier : All P' made = λ k d h.
    let r = get_or made k d in
    let inside : is_among r.id (finished picked.history) ≡ true = ap (is_among r.id) before ∙ (list_any-append (is_same_id r.id) (finished old.history) (map (λ x. x.id) made) ∙ or-of _ _ (among_self made k d h)) in
    ap (λ (xs : List Accepted). run_of xs r.id) jobs ∙ (run_of-other m.jobs id r.id run (among_apart (finished picked.history) id r.id fresh inside) ∙ ran.kept k d h) in
    let mine : P' row = ap (λ (xs : List Accepted). run_of xs id) jobs ∙ run_of-with_run m.jobs id run plan (ap (λ (xs : List Accepted). plan_of xs id) (sym left.jobs) ∙ there) in record {
      answered = subst (λ (xs : List Asked). Between first xs next) (ap (λ (xs : List Asked). asked_in made ++ xs) (sym (append-nil run.asked)) ∙ sym (flat_map-append (λ (r : Row). r.run.asked) made (row ∷ []))) (append first now next (asked_in made) run.asked ran.answered answered);
      finished = history ∙ (ap (λ (ids : List Id). ids ++ id ∷ []) before ∙ (append_assoc (finished old.history) (map (λ r. r.id) made) (id ∷ []) ∙ ap (λ (ids : List Id). finished old.history ++ ids) (sym (map-append (λ (r : Row). r.id) made (row ∷ [])))));
      jobs = jobs ∙ (ap (λ (xs : List Accepted). with_run xs id run) ran.jobs ∙ sym (with_runs-append old.jobs made row));
      kept = All-append P' made (row ∷ []) earlier (All-push P' [] row (All-nil P') mine);
    }

-- the run that is kept of a job is its result
is_result : (jobs : List Accepted) (rows : List Row) (row : Row) → AreResultsOf jobs rows → run_of jobs row.id ≡ Some row.run → Contains rows row
is_result [] [] row h kept = absurd (none-some row.run kept)
is_result (job ∷ jobs) (x ∷ xs) row h kept = cases (is_same_id row.id job.id) refl kept (is_result jobs xs row h.1)
  where
    cases : (b : Bool) → is_same_id row.id job.id ≡ b → cond b job.run (run_of jobs row.id) ≡ Some row.run → (run_of jobs row.id ≡ Some row.run → Contains xs row) → Contains (x ∷ xs) row
    cases true is here rest =
        let id : x.id ≡ row.id = h.0.id ∙ sym (same_id-equal row.id job.id is) in
        let run : x.run ≡ row.run = same_Some x.run row.run (sym h.0.run ∙ here) in
        (0, omega arith, λ i. record { id = id i; run = run i })
    cases false is here rest = let r = rest here in (suc r.0, omega arith, r.2)
is_result _ _ row h kept = absurd h

-- what a drain ran itself, if there is a report
pub ran_where_ok : {P A E : Type 0} (Between : P → List Asked → P → Type 0) (first last : P) (old new : MachineView) (made : List Row) (history_of : A → List Event) (results_of : A → List Row) (r : Result A E)
    → Ran Between first old made last new → IsPrefix old.history new.history → IfOk r (λ x. history_of x ≡ new.history) → IfOk r (λ x. AreResultsOf new.jobs (results_of x))
    → IfOk r (λ x. (before : List Event) × (rows : List Row) × RanInDrain Between first last before rows (history_of x) (results_of x))
ran_where_ok Between first last old new made history_of results_of (Ok x) ran begins is kept = (
  old.history,
  made,
  record {
    answered = ran.answered;
    begins = subst (λ (h : List Event). IsPrefix old.history h) (sym is) begins;
    finished = ap finished is ∙ ran.finished;
    results = λ k d h. is_result new.jobs (results_of x) (get_or made k d) kept (ran.kept k d h);
  },
)
ran_where_ok Between first last old new made history_of results_of (Err e) ran begins is kept = tt

-- a machine whose history is legal, and in which no job was finished that wasn't picked
pub record IsInOrder (m : MachineView) : Type 0 where
  pub legal : IsLegal m.limits m.history
  pub few : EndsOnlyPicked m

-- a job was picked and not finished: with its finish, no job was finished more often than it was picked
pub record IsOutNow (m : MachineView) (id : Id) : Type 0 where
  pub legal : IsLegal m.limits m.history
  pub due : (x : Id) → times x (finished m.history) + times x (id ∷ []) ≤ times x (starts_of m) + times x (taken m.history)

pub is_out : (m : MachineView) (id : Id) → IsOutNow m id → is_among id (jobs_in_flight m) ≡ true
is_out m id o = due-out m.limits m id o.legal (o.due id)

-- the machine that a pick leaves
pub picked_out : (old new : MachineView) (id : Id) → IsInOrder old → IsPicked old id new → IsOutNow new id
picked_out old new id order pick =
    let left = left_by_pick old new id pick in record {
      legal = left.legal order.legal;
      due = λ x. let f = order.few x in let e = left.picked x in let same = ap (times x) left.finished in omega (arith, f, e, same);
    }

-- the machine that its finish leaves
pub finished_out : (old new : MachineView) (id : Id) (run : RunView) → IsOutNow old id → new ≡ with_finish old id run → IsInOrder new
finished_out old new id run o is = record {
  legal = subst (λ (m : MachineView). IsLegal m.limits m.history) (sym is) (legal-push old.limits old.history (Finish id) o.legal (out_runs old id (is_out old id o)));
  few = λ x.
      let due = o.due x in
      let ends : times x (finished new.history) ≡ times x (finished old.history) + times x (id ∷ []) = ap (λ (m : MachineView). times x (finished m.history)) is ∙ (ap (times x) (filter_map-append finished_id old.history (Finish id ∷ [])) ∙ times-append x (finished old.history) (id ∷ [])) in
      let takes : times x (taken new.history) ≡ times x (taken old.history) = ap (λ (m : MachineView). times x (taken m.history)) is ∙ ap (times x) (filtered-same taken_id old.history (Finish id) refl) in
      let starts : times x (starts_of new) ≡ times x (starts_of old) = ap (λ (m : MachineView). times x (starts_of m)) is ∙ ap (λ (ids : List Id). times x (take old.picked ids)) (filtered-same started_id old.history (Finish id) refl) in
      omega (arith, due, ends, takes, starts);
}
