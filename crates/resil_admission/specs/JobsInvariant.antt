-- What is true of the accepted jobs of a pool between any two calls.
use Rattle.std.specs.Prelude.{◌≡◌, ◌≤◌, ◌+◌, ◌++◌, [], ◌∷◌, Bool, false, List, Option, None, Some, length, map, position, vec_len, vec_capacity, if◌then◌else◌}
use Rattle.resil_admission.specs.Words.{RunView, IsValue, is_same_id, Id, Accepted, Row}
use Rattle.resil_admission.specs.MachineView.{ids_of}
use Rattle.resil_admission.specs.SubmissionTable.{place_at}
use Rattle.resil_admission.specs.KeptJob.{KeptView}
use Rattle.resil_admission.specs.declared.jobs.Jobs.TheInside.{Inside}

-- the runs of jobs are values of their plans
abbrev pub HaveOwnRuns : List Accepted → Type 0
HaveOwnRuns [] = Unit {0}
HaveOwnRuns (job ∷ jobs) = ((run : RunView) → job.run ≡ Some run → (run.plan ≡ job.plan) × IsValue run) × HaveOwnRuns jobs

-- the row of a job, if it has its run
abbrev pub result_row_with : Id → Option RunView → List Row
result_row_with id None = []
result_row_with id (Some run) = record { id = id; run = run } ∷ []

abbrev pub result_row : Accepted → List Row
result_row job = result_row_with job.id job.run

-- the job that a row is the result of
abbrev pub job_of_row : Row → Accepted
job_of_row row = record { id = row.id; plan = row.run.plan; run = Some row.run }

-- the jobs in order of acceptance: first those with rows made
abbrev pub jobs_kept : List Row → List Accepted → List Accepted
jobs_kept rows later = map job_of_row rows ++ later

abbrev pub jobs_of : List KeptView → List Accepted
jobs_of later = map (λ kept. kept.job) later

-- whether the job of an id hasn't been picked yet: the first of that id
abbrev pub unpicked_in : List KeptView → Id → Bool
unpicked_in [] id = false
unpicked_in (kept ∷ more) id = if is_same_id id kept.job.id then kept.unpicked else unpicked_in more id

-- a job with a row was picked
abbrev pub kept_row : Row → KeptView
kept_row row = record { job = job_of_row row; unpicked = false }

abbrev pub all_kept : List Row → List KeptView → List KeptView
all_kept rows later = map kept_row rows ++ later

-- runs are values of their jobs' plans, there is room for a row of each job, and the table has the place of each job, and of no other
pub record JobsInvariant (j : Inside) : Type 0 where
  pub own_runs : HaveOwnRuns (jobs_kept j.rows.items (jobs_of j.later.items))
  pub room : vec_len j.rows + length j.later.items ≤ vec_capacity j.rows
  pub places : (id : Id) → place_at j.places id ≡ position (is_same_id id) (ids_of (jobs_kept j.rows.items (jobs_of j.later.items)))
