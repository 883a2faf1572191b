-- The jobs of rows are a load if times ascend and each job is in time.
use Rattle.resil_simulate.proofs.Words.{◌≡◌, ◌<◌, ◌+◌, ◌∷◌, [], ◌++◌, ◌∙◌, ℕ, zero, suc, List, Some, get_or, length, map, slice_get, slice_index, take, refl, ap, sym, add-one, arith, common_steps, map_push, map-append, max, take_more, sum-map, sum_by_more, get_or_from_slice_get, slice_get_within, AreAscending, IsLoad, earliest_ends_of, latest, of_caller, runs_of, times_of, Arrival, LoadRow, AreInTime, arrival_at, arrivals_of, end_of, Ways, ◌*◌}
use Rattle.std.specs.List.{enumerate_from, sum}
use Rattle.resil_stats.proofs.PlaceLaws.{placed-push}
use Rattle.resil_virtual.proofs.LoadLaws.{latest-push}

-- a job, for places that are never read
abbrev pub no_job : Arrival
no_job = record { id = record { caller = 0; number = 0 }; at = 0; takes = 0; earliest_end = 0 }

time-here : (jobs : List Arrival) (i : ℕ) (d a : Arrival) → i < length jobs → get_or jobs i d ≡ a → slice_index (times_of jobs) i ≡ a.at
time-here [] i d a lt is = absurd (omega arith)
time-here (j ∷ jobs) zero d a lt is = ap (λ (x : Arrival). x.at) is
time-here (j ∷ jobs) (suc i) d a lt is = time-here jobs i d a (omega arith) is

-- the runs up to a job, and its end
pub runs-more : (jobs : List Arrival) (i : ℕ) (d : Arrival) → i < length jobs
    → sum (runs_of (take (i + 1) jobs)) ≡ sum (runs_of (take i jobs)) + (get_or jobs i d).takes
runs-more jobs i d lt = let takes = λ (a : Arrival). a.takes in rw (sum-map takes (take (i + 1) jobs), sum-map takes (take i jobs)) (sum_by_more takes jobs i d lt)

-- the latest of the earliest ends up to a job
abbrev pub end_to : List Arrival → ℕ → ℕ
end_to jobs i = latest (earliest_ends_of (take i jobs))

pub ends-more : (jobs : List Arrival) (i : ℕ) (d : Arrival) → i < length jobs → end_to jobs (i + 1) ≡ max (get_or jobs i d).earliest_end (end_to jobs i)
ends-more jobs i d lt =
    let more = ap (λ (all : List Arrival). latest (earliest_ends_of all)) (take_more jobs i d lt) ∙ ap latest (map-append (λ (a : Arrival). a.earliest_end) (take i jobs) (get_or jobs i d ∷ []))
    ∙ latest-push (earliest_ends_of (take i jobs)) (get_or jobs i d).earliest_end in
    omega (arith, more)

pub end-here : (ways : Ways) (jobs : List Arrival) (i : ℕ) (d : Arrival) → i < length jobs
    → end_of ways jobs i ≡ max (get_or jobs i d).at (end_to jobs (i + 1)) + (sum (runs_of (take i jobs)) + (get_or jobs i d).takes) + (ways.wakes * i + ways.wakes) + ways.idle_for
end-here ways jobs i d lt =
    let at = time-here jobs i d _ lt refl in
    let more = rw add-one at (runs-more jobs i d lt) in
    let one : suc i ≡ i + 1 = omega arith in let last : end_to jobs (suc i) ≡ end_to jobs (i + 1) = ap (end_to jobs) one in
    let woken : ways.wakes * suc i ≡ ways.wakes * i + ways.wakes = grind arith in
    rw (at, more, woken, last) refl

-- ---- The jobs of rows from a number on.

abbrev jobs_from : ℕ → List LoadRow → List Arrival
jobs_from p rows = map arrival_at (enumerate_from p rows)

pub arrivals_push : (rows : List LoadRow) (i : ℕ) (d : LoadRow) → i < length rows
    → arrivals_of (take i rows) ++ arrival_at (i + 1, get_or rows i d) ∷ [] ≡ arrivals_of (take (i + 1) rows)
arrivals_push rows i d lt = grind (arith, common_steps, placed-push 1 (take i rows) (get_or rows i d), map_push arrival_at (enumerate_from 1 (take i rows)))

-- a job of rows is of caller 1, and has the number of its place among them
numbered : (p : ℕ) (rows : List LoadRow) (k : ℕ) (a : Arrival) → slice_get (jobs_from p rows) k ≡ Some a
    → (a.id.caller ≡ 1) × (a.id.number ≡ p + length (of_caller 1 (take k (jobs_from p rows))))
numbered p [] k a is = absurd (cc is)
numbered p (r ∷ rows) zero a is =
    let same : arrival_at (p, r) ≡ a = cc is in
    (ap (λ (x : Arrival). x.id.caller) (sym same), ap (λ (x : Arrival). x.id.number) (sym same) ∙ omega arith)
numbered p (r ∷ rows) (suc k) a is =
    let (caller, number) = numbered (p + 1) rows k a is in
    (caller, omega (arith, number))

-- jobs that ascend, each with its caller's next number and in time, are a load
pub load : (ways : Ways) (jobs : List Arrival) → AreAscending (times_of jobs)
    → ((k : ℕ) (a : Arrival) → slice_get jobs k ≡ Some a → a.id.number ≡ suc (length (of_caller a.id.caller (take k jobs)))) → AreInTime ways jobs → IsLoad ways.idle_for ways.wakes jobs
load ways jobs ascend next in_time = record {
  ascending = ascend;
  numbered = next;
  in_time = λ k a is. let within = slice_get_within jobs k a is in rw (time-here jobs k no_job a within (get_or_from_slice_get jobs k a no_job is)) at (in_time k within);
}

pub is_load : (ways : Ways) (rows : List LoadRow) → AreAscending (times_of (arrivals_of rows)) → AreInTime ways (arrivals_of rows)
    → IsLoad ways.idle_for ways.wakes (arrivals_of rows)
is_load ways rows ascend in_time = load ways (arrivals_of rows) ascend (λ k a is. let (caller, number) = numbered 1 rows k a is in rw caller (omega (arith, number))) in_time
