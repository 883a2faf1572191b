-- The accepted jobs: plans by id, runs by id, and the results in order.
use Rattle.std.proofs.Common.{◌≡◌, ◌<◌, ◌≤◌, slice_get, ◌∷◌, [], ◌++◌, ◌∙◌, ℕ, zero, suc, Bool, true, false, cond, List, Option, Some, None, option_map, length, length-append, not, get_or, set, map, nat_lt, ◌-◌, refl, sym, ap, arith}
use Rattle.std.specs.List.{position, position_or_len, flat_map, list_all}
use Rattle.std.specs.Option.{is_some}
use Rattle.std.specs.Prelude.{IsTrue}
use Rattle.std.proofs.lemmas.List.{append_assoc, get_or_append_left, get_or-append_right, get_or-map, length-map, map-set, set-append_left, set-append_right}
use Rattle.std.proofs.lemmas.Grind.{common_steps}
use Rattle.std.proofs.lemmas.List.Folds.{find_at, position_or_len_push}
use Rattle.std.proofs.lemmas.List.Quantifiers.{position-Some}
use Rattle.std.proofs.lemmas.List.Recursion.{found_set_other}
use Rattle.std.proofs.lemmas.List.Sums.{prefix_len-le-length}
use Rattle.resil_admission.specs.Words.{PlanView, RunView, IsValue, is_among, is_same_id, Id, Accepted, Row}
use Rattle.resil_rule.proofs.IdLaws.{both, same_id-equal}
use Rattle.resil_rule.proofs.TimesLaws.{same_id-sym}
use Rattle.resil_admission.specs.MachineView.{plan_of, ids_of, with_run, AllDone, AreResultsOf}
use Rattle.resil_admission.specs.JobsInvariant.{HaveOwnRuns, result_row_with, result_row, job_of_row, jobs_of, jobs_kept, unpicked_in, kept_row, all_kept}
use Rattle.resil_admission.specs.KeptJob.{KeptView}

-- a plan of jobs is that of more jobs
pub plan_of-grows : (jobs more : List Accepted) (id : Id) (plan : PlanView) → plan_of jobs id ≡ Some plan → plan_of (jobs ++ more) id ≡ Some plan
plan_of-grows [] more id plan h = absurd (cc h)
plan_of-grows (job ∷ jobs) more id plan h = grind (arith, plan_of-grows jobs more id plan, h)

-- an id of jobs has a plan
pub plan_of-known : (jobs : List Accepted) (id : Id) → is_among id (ids_of jobs) ≡ true → (plan : PlanView) × (plan_of jobs id ≡ Some plan)
plan_of-known [] id among = absurd (cc among)
plan_of-known (job ∷ jobs) id among = go (plan_of-known jobs id) (is_same_id id job.id) refl
  where
    go : (is_among id (ids_of jobs) ≡ true → (plan : PlanView) × (plan_of jobs id ≡ Some plan)) → (b : Bool) → is_same_id id job.id ≡ b → (plan : PlanView) × (plan_of (job ∷ jobs) id ≡ Some plan)
    go rest true same = (job.plan, grind (arith, same))
    go rest false other =
        let known = rest (grind (arith, other, among)) in
        (known.0, grind (arith, other, known.1))

pub plan_of-among : (jobs : List Accepted) (id : Id) (plan : PlanView) → plan_of jobs id ≡ Some plan → is_among id (ids_of jobs) ≡ true
plan_of-among [] id plan known = absurd (cc known)
plan_of-among (job ∷ jobs) id plan known = grind (arith, plan_of-among jobs id plan, known)

-- a run changes neither ids nor plans
pub ids-with_run : (jobs : List Accepted) (id : Id) (run : RunView) → ids_of (with_run jobs id run) ≡ ids_of jobs
ids-with_run [] id run = refl
ids-with_run (job ∷ jobs) id run = grind (arith, ids-with_run jobs id run)

pub plan_of-with_run : (jobs : List Accepted) (id : Id) (run : RunView) (other : Id) → plan_of (with_run jobs id run) other ≡ plan_of jobs other
plan_of-with_run [] id run other = refl
plan_of-with_run (job ∷ jobs) id run other = grind (arith, plan_of-with_run jobs id run other)

-- the jobs of those that are kept, whose rows are made or not
pub jobs-kept : (rows : List Row) (later : List KeptView) → jobs_of (map kept_row rows ++ later) ≡ jobs_kept rows (jobs_of later)
jobs-kept [] later = refl
jobs-kept (row ∷ rows) later = ap (λ (jobs : List Accepted). job_of_row row ∷ jobs) (jobs-kept rows later)

-- which jobs weren't picked yet: with more after them, with others after the same, and with a job of an id instead of another of that id
pub unpicked-push : (kept more : List KeptView) (x : Id) → unpicked_in kept x ≡ true → unpicked_in (kept ++ more) x ≡ true
unpicked-push [] more x is = absurd (cc is)
unpicked-push (k ∷ kept) more x is = grind (arith, unpicked-push kept more x, is)

pub unpicked-new : (kept : List KeptView) (k : KeptView) (x : Id) → is_same_id x k.job.id ≡ true → is_among x (ids_of (jobs_of kept)) ≡ false → unpicked_in (kept ++ k ∷ []) x ≡ k.unpicked
unpicked-new [] k x same new = rw same refl
unpicked-new (j ∷ kept) k x same new = grind (arith, unpicked-new kept k x same, new)

unpicked-behind : (kept more other : List KeptView) (x : Id) → unpicked_in more x ≡ unpicked_in other x → unpicked_in (kept ++ more) x ≡ unpicked_in (kept ++ other) x
unpicked-behind [] more other x same = same
unpicked-behind (k ∷ kept) more other x same = ap (λ b. cond (is_same_id x k.job.id) k.unpicked b) (unpicked-behind kept more other x same)

unpicked-set : (kept : List KeptView) (i : ℕ) (k d : KeptView) (x : Id) → k.job.id ≡ (get_or kept i d).job.id → is_same_id x k.job.id ≡ false → unpicked_in (set kept i k) x ≡ unpicked_in kept x
unpicked-set kept i k d x named other =
    found_set_other (λ ks. unpicked_in ks x) (λ k. is_same_id x k.job.id) (λ k. k.unpicked) false refl (λ k ks. refl) kept i k d (ap (is_same_id x) (sym named) ∙ other) other

-- a row that is made of a finished job
pub unpicked-made : (rows : List Row) (k : KeptView) (later : List KeptView) (x : Id) → IsTrue (is_some k.job.run) → k.unpicked ≡ false
    → unpicked_in (map kept_row (rows ++ result_row k.job) ++ later) x ≡ unpicked_in (map kept_row rows ++ k ∷ later) x
unpicked-made [] k later x some picked = go k.job.run refl some
  where
    go : (run : Option RunView) → k.job.run ≡ run → IsTrue (is_some run) → unpicked_in (map kept_row (result_row k.job) ++ later) x ≡ cond (is_same_id x k.job.id) k.unpicked (unpicked_in later x)
    go None is some = absurd (cc some)
    go (Some run) is some = rw (is, picked) refl
unpicked-made (row ∷ rows) k later x some picked = ap (λ b. cond (is_same_id x row.id) false b) (unpicked-made rows k later x some picked)

pub unpicked-nowhere : (kept : List KeptView) (x : Id) → is_among x (ids_of (jobs_of kept)) ≡ false → unpicked_in kept x ≡ false
unpicked-nowhere [] x none = refl
unpicked-nowhere (k ∷ kept) x none = grind (arith, unpicked-nowhere kept x, none)

-- a job that has its row was picked, and with another row of its id it still is
pub unpicked-rows : (rows : List Row) (later : List KeptView) (x : Id) → unpicked_in (all_kept rows later) x ≡ cond (is_among x (map (λ row. row.id) rows)) false (unpicked_in later x)
unpicked-rows [] later x = refl
unpicked-rows (row ∷ rows) later x = grind (arith, unpicked-rows rows later x)

unpicked-row : (rows : List Row) (later : List KeptView) (i : ℕ) (d : KeptView) → i < length rows → (get_or (map kept_row rows ++ later) i d).unpicked ≡ false
unpicked-row [] later i d within = absurd (omega (arith, within))
unpicked-row (row ∷ rows) later zero d within = refl
unpicked-row (row ∷ rows) later (suc i) d within = unpicked-row rows later i d (omega (arith, within))

-- the job of an id is the one at its first index
record IsAt (kept : List KeptView) (id : Id) (i : ℕ) (d : KeptView) : Type 0 where
  within : i < length kept
  named : is_same_id id (get_or kept i d).job.id ≡ true
  unpicked : unpicked_in kept id ≡ (get_or kept i d).unpicked
  plan : plan_of (jobs_of kept) id ≡ Some (get_or kept i d).job.plan

at-first : (kept : List KeptView) (id : Id) (i : ℕ) (d : KeptView) → i < length kept → is_same_id id (get_or kept i d).job.id ≡ true
    → ((k : ℕ) → k < i → is_same_id id (get_or kept k d).job.id ≡ false) → IsAt kept id i d
at-first [] id i d within hit before = absurd (omega (arith, within))
at-first (k ∷ kept) id zero d within hit before = record { within = within; named = hit; unpicked = rw hit refl; plan = rw hit refl }
at-first (k ∷ kept) id (suc i) d within hit before =
    let miss = before 0 (omega arith) in
    let rest = at-first kept id i d (omega (arith, within)) hit (λ k low. before (suc k) (omega (arith, low))) in
    record { within = within; named = hit; unpicked = rw miss rest.unpicked; plan = rw miss rest.plan }

-- runs stay values of their jobs' plans
pub runs-push : (jobs : List Accepted) (job : Accepted) → HaveOwnRuns jobs → job.run ≡ None → HaveOwnRuns (jobs ++ job ∷ [])
runs-push [] job have none = ((λ run has. let bad : Some run ≡ None = sym has ∙ none in cc), tt)
runs-push (j ∷ jobs) job have none = (have.0, runs-push jobs job have.1 none)

pub runs-with_run : (jobs : List Accepted) (id : Id) (run : RunView) → HaveOwnRuns jobs → plan_of jobs id ≡ Some run.plan → IsValue run → HaveOwnRuns (with_run jobs id run)
runs-with_run [] id run have known value = tt
runs-with_run (job ∷ jobs) id run have known value = go (λ known. runs-with_run jobs id run have.1 known value) (is_same_id id job.id) refl
  where
    go : (plan_of jobs id ≡ Some run.plan → HaveOwnRuns (with_run jobs id run)) → (b : Bool) → is_same_id id job.id ≡ b → HaveOwnRuns (cond b (record job { run = Some run } ∷ jobs) (job ∷ with_run jobs id run))
    go rest true same =
        let plan : job.plan ≡ run.plan = grind (arith, same, known) in
        ((λ other has. let e : run ≡ other = cc in rw (← e) (sym plan, value)), have.1)
    go rest false other = (have.0, rest (grind (arith, other, known)))

-- a run put at the index of the first job of an id, which has the run's plan
with_run-set : (jobs : List Accepted) (id : Id) (run : RunView) (i : ℕ) (d : Accepted) → plan_of jobs id ≡ Some run.plan → i < length jobs → is_same_id id (get_or jobs i d).id ≡ true
    → ((k : ℕ) → k < i → is_same_id id (get_or jobs k d).id ≡ false) → with_run jobs id run ≡ set jobs i (record { id = (get_or jobs i d).id; plan = run.plan; run = Some run })
with_run-set [] id run i d known within hit before = absurd (omega arith)
with_run-set (job ∷ jobs) id run zero d known within hit before =
    let plan : job.plan ≡ run.plan = grind (arith, hit, known) in
    rw (hit, ← plan) refl
with_run-set (job ∷ jobs) id run (suc i) d known within hit before =
    let miss : is_same_id id job.id ≡ false = before 0 (omega arith) in
    let rest : plan_of jobs id ≡ Some run.plan = grind (arith, miss, known) in
    rw miss (ap (λ (rest : List Accepted). job ∷ rest) (with_run-set jobs id run i d rest (omega arith) hit (λ k low. before (suc k) (omega arith))))

-- the jobs after a run was put into a row, and after it was put at a job that has no row yet
module _ (rows : List Row) (later : List Accepted) (id : Id) (run : RunView) (i : ℕ) (known : plan_of (jobs_kept rows later) id ≡ Some run.plan)
    (found : position (λ job. is_same_id id job.id) (jobs_kept rows later) ≡ Some i) where
  with_run-found : (d : Accepted) → with_run (jobs_kept rows later) id run ≡ set (jobs_kept rows later) i (record { id = (get_or (jobs_kept rows later) i d).id; plan = run.plan; run = Some run })
  with_run-found d =
      let at = position-Some (λ job. is_same_id id job.id) (jobs_kept rows later) i d found in
      with_run-set (jobs_kept rows later) id run i d known at.0 at.1 at.2

  pub kept-row : (r : Row) → i < length rows → jobs_kept (set rows i (record { id = (get_or rows i r).id; run = run })) later ≡ with_run (jobs_kept rows later) id run
  kept-row r inside =
      let here : i < length (map job_of_row rows) = omega (arith, length-map rows job_of_row) in
      let same : get_or (jobs_kept rows later) i (job_of_row r) ≡ job_of_row (get_or rows i r) = get_or_append_left (map job_of_row rows) later (job_of_row r) i here ∙ get_or-map job_of_row rows i r (job_of_row r) inside in
      let named : (get_or (jobs_kept rows later) i (job_of_row r)).id ≡ (get_or rows i r).id = ap (λ (job : Accepted). job.id) same in
      let row : Row = record { id = (get_or rows i r).id; run = run } in
      ap (λ (made : List Accepted). made ++ later) (map-set job_of_row rows i row) ∙ sym (set-append_left (map job_of_row rows) later i (job_of_row row) here)
      ∙ ap (λ (own : Id). set (jobs_kept rows later) i (record { id = own; plan = run.plan; run = Some run })) (sym named) ∙ sym (with_run-found (job_of_row r))

  pub kept-later : (n : ℕ) (d : Accepted) → length rows ≡ n → n ≤ i → jobs_kept rows (set later (i - n) (record { id = (get_or later (i - n) d).id; plan = run.plan; run = Some run })) ≡ with_run (jobs_kept rows later) id run
  kept-later n d long past =
      let made : length (map job_of_row rows) ≡ n = length-map rows job_of_row ∙ long in
      let same : get_or (jobs_kept rows later) i d ≡ get_or later (i - n) d = get_or-append_right (map job_of_row rows) later n i d made past in
      let named : (get_or (jobs_kept rows later) i d).id ≡ (get_or later (i - n) d).id = ap (λ (job : Accepted). job.id) same in
      sym (set-append_right (map job_of_row rows) later n i (record { id = (get_or later (i - n) d).id; plan = run.plan; run = Some run }) made past)
      ∙ ap (λ (own : Id). set (jobs_kept rows later) i (record { id = own; plan = run.plan; run = Some run })) (sym named) ∙ sym (with_run-found d)

-- a job at the end of those that have no row yet
pub kept-push : (rows : List Row) (later : List Accepted) (job : Accepted) → jobs_kept rows (later ++ job ∷ []) ≡ jobs_kept rows later ++ job ∷ []
kept-push rows later job = sym (append_assoc (map job_of_row rows) later (job ∷ []))

-- each job has its run where each one that has no row yet has it
pub all_done-kept : (rows : List Row) (later : List Accepted) → list_all (λ job. is_some job.run) (jobs_kept rows later) ≡ list_all (λ job. is_some job.run) later
all_done-kept [] later = refl
all_done-kept (row ∷ rows) later = all_done-kept rows later

-- the rows of the jobs: those that are made, and those of the other jobs
pub rows-kept : (rows : List Row) (later : List Accepted) → flat_map result_row (jobs_kept rows later) ≡ rows ++ flat_map result_row later
rows-kept [] later = refl
rows-kept (row ∷ rows) later = ap (λ (rest : List Row). row ∷ rest) (rows-kept rows later)

-- the rows of jobs that all have their runs are their results
pub results-of : (jobs : List Accepted) → AllDone jobs → HaveOwnRuns jobs → AreResultsOf jobs (flat_map result_row jobs)
results-of [] done own = tt
results-of (job ∷ jobs) done own = go job.run refl (λ done. results-of jobs done own.1) (both (is_some job.run) _ done)
  where
    go : (run : Option RunView) → job.run ≡ run → (AllDone jobs → AreResultsOf jobs (flat_map result_row jobs)) → (is_some run ≡ true) × AllDone jobs → AreResultsOf (job ∷ jobs) (result_row_with job.id run ++ flat_map result_row jobs)
    go None was rest done = absurd (cc (done.0))
    go (Some run) was rest done =
        let ran = own.0 run was in
        (record { id = refl; run = was; plan = ran.0; value = ran.1 }, rest done.1)

-- the index of a job by its id is that among the ids
named : {A B : Type 0} (p : B → Bool) (f : A → B) (xs : List A) → position_or_len p (map f xs) ≡ position_or_len (λ x. p (f x)) xs
named p f [] = refl
named p f (x ∷ xs) = grind (arith, named p f xs)

pub position-named : (id : Id) (jobs : List Accepted) → position (is_same_id id) (ids_of jobs) ≡ position (λ job. is_same_id id job.id) jobs
position-named id jobs = grind (arith, common_steps, named (is_same_id id) (λ job. job.id) jobs)

is-at : (kept : List KeptView) (id : Id) (i : ℕ) (d : KeptView) → position (is_same_id id) (ids_of (jobs_of kept)) ≡ Some i → IsAt kept id i d
is-at kept id i d found =
    let named_ = named (is_same_id id) (λ job. job.id) (jobs_of kept) ∙ named (λ job. is_same_id id job.id) (λ k. k.job) kept in
    let long = length-map (jobs_of kept) (λ job. job.id) ∙ length-map kept (λ k. k.job) in
    let here : position (λ k. is_same_id id k.job.id) kept ≡ Some i = grind (arith, common_steps, named_, long, found) in
    let at = position-Some (λ k. is_same_id id k.job.id) kept i d here in
    at-first kept id i d at.0 at.1 at.2

-- the job at the first index of an id, with its row or without
is-here : (rows : List Row) (later : List KeptView) (id : Id) (i : ℕ) (d : KeptView) → position (is_same_id id) (ids_of (jobs_kept rows (jobs_of later))) ≡ Some i → IsAt (all_kept rows later) id i d
is-here rows later id i d found = is-at (all_kept rows later) id i d (ap (λ jobs. position (is_same_id id) (ids_of jobs)) (jobs-kept rows later) ∙ found)

-- a job that has its row was picked
pub row-picked : (rows : List Row) (later : List KeptView) (id : Id) (i : ℕ) → position (is_same_id id) (ids_of (jobs_kept rows (jobs_of later))) ≡ Some i → i < length rows → unpicked_in (all_kept rows later) id ≡ false
row-picked [] later id i found within = absurd (omega (arith, within))
row-picked (row ∷ rows) later id i found within = (is-here (row ∷ rows) later id i (kept_row row) found).unpicked ∙ unpicked-row (row ∷ rows) later i (kept_row row) within

module _ (rows : List Row) (later : List KeptView) (id : Id) (i n : ℕ) (d : KeptView) (found : position (is_same_id id) (ids_of (jobs_kept rows (jobs_of later))) ≡ Some i) (long : length rows ≡ n) (past : n ≤ i) where
  abbrev job : KeptView
  job = get_or later (i - n) d

  here : IsAt (all_kept rows later) id i d
  here = is-here rows later id i d found

  at : get_or (all_kept rows later) i d ≡ job
  at = get_or-append_right (map kept_row rows) later n i d (length-map rows kept_row ∙ long) past

  pub later-within : i - n < length later
  later-within = omega (arith, here.within, length-append (map kept_row rows) later, length-map rows kept_row, long, past)

  pub later-named : id ≡ job.job.id
  later-named = same_id-equal id job.job.id (ap (λ k. is_same_id id k.job.id) (sym at) ∙ here.named)

  pub later-unpicked : unpicked_in (all_kept rows later) id ≡ job.unpicked
  later-unpicked = here.unpicked ∙ ap (λ k. k.unpicked) at

  pub later-plan : plan_of (jobs_kept rows (jobs_of later)) id ≡ Some job.job.plan
  later-plan = ap (λ jobs. plan_of jobs id) (sym (jobs-kept rows later)) ∙ here.plan ∙ ap (λ k. Some k.job.plan) at

  -- with another job of the same id in its place, the others are as they were
  pub later-others : (k : KeptView) → k.job.id ≡ job.job.id → (x : Id) → is_same_id x id ≡ false → unpicked_in (all_kept rows (set later (i - n) k)) x ≡ unpicked_in (all_kept rows later) x
  later-others k same x apart = unpicked-behind (map kept_row rows) (set later (i - n) k) later x (unpicked-set later (i - n) k d x same (ap (is_same_id x) (same ∙ sym later-named) ∙ apart))

-- the plan of an id is that of the job at its first index
pub plan-at : (jobs : List Accepted) (id : Id) (index : ℕ) → position (is_same_id id) (ids_of jobs) ≡ Some index → plan_of jobs id ≡ option_map (λ job. job.plan) (slice_get jobs index)
plan-at jobs id index found =
    let here : position (λ job. is_same_id id job.id) jobs ≡ Some index = sym (position-named id jobs) ∙ found in
    let first : position_or_len (λ job. is_same_id id job.id) jobs ≡ index = grind (arith, common_steps, here) in
    ap (option_map (λ job. job.plan)) (find_at (λ job. is_same_id id job.id) jobs ∙ ap (slice_get jobs) first)

-- an id is among others if it has an index there
among-at : (id : Id) (ids : List Id) → is_among id ids ≡ nat_lt (position_or_len (is_same_id id) ids) (length ids)
among-at id [] = refl
among-at id (x ∷ ids) = grind (arith, among-at id ids)

pub nowhere : (id : Id) (ids : List Id) → position (is_same_id id) ids ≡ None → is_among id ids ≡ false
nowhere id ids none = among-at id ids ∙ grind (arith, common_steps, none)

-- a new id is after the others
pub position-last : (id x : Id) (ids : List Id) → is_among id ids ≡ false → position (is_same_id x) (ids ++ id ∷ []) ≡ cond (is_same_id id x) (Some (length ids)) (position (is_same_id x) ids)
position-last id x ids new = go (is_same_id x id) refl
  where
    go : (b : Bool) → is_same_id x id ≡ b → position (is_same_id x) (ids ++ id ∷ []) ≡ cond (is_same_id id x) (Some (length ids)) (position (is_same_id x) ids)
    go true same =
        let none : nat_lt (position_or_len (is_same_id x) ids) (length ids) ≡ false = sym (among-at x ids) ∙ ap (λ (x : Id). is_among x ids) (same_id-equal x id same) ∙ new in
        let push = position_or_len_push (is_same_id x) ids id in
        let within = prefix_len-le-length (λ y. not (is_same_id x y)) ids in
        rw (same_id-sym id x, same) (grind (arith, common_steps, none, within, push, same))
    go false other =
        let push = position_or_len_push (is_same_id x) ids id in
        rw (same_id-sym id x, other) (grind (arith, common_steps, push, other))
