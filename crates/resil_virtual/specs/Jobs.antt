-- What contracts see of the jobs that run.
use Rattle.std.specs.Prelude.{ℕ, ◌≡◌, ◌+◌, [], ◌∷◌, Bool, false, List, Option, Some, None, max, slice_get}
use Rattle.std.specs.List.{AllByRecursion}
use Rattle.std.specs.Ordering.{is_lt, nat_cmp, ordering_then}
use Rattle.std.specs.declared.cmp.Ordering.{Ordering}
use Rattle.std.specs.declared.cmp.Reverse.{Reverse}
use Rattle.resil_rule.specs.declared.event.Id.{Id}
use Rattle.resil_virtual.specs.declared.arrival.Arrival.{Arrival}
use Rattle.resil_virtual.specs.declared.jobs.RunningJob.{RunningJob}

-- in the order in which the heap has them
pub record JobsView : Type 0 where
  pub items : List RunningJob

abbrev pub id_of : RunningJob → Id
id_of job = record { caller = job.caller; number = job.number }

-- a job that begins at a time, in its place in the order in which jobs begin
abbrev pub begun_at : ℕ → ℕ → Arrival → RunningJob
begun_at at order job = record { due = max (at + job.takes) job.earliest_end; order = order; caller = job.id.caller; number = job.id.number }

-- by when they finish, and then by the order in which they began
abbrev pub job_cmp : RunningJob → RunningJob → Ordering
job_cmp a b = ordering_then (nat_cmp a.due b.due) (ordering_then (nat_cmp a.order b.order) (ordering_then (nat_cmp a.caller b.caller) (nat_cmp a.number b.number)))

abbrev pub soonest_first : Reverse RunningJob → Reverse RunningJob → Ordering
soonest_first a b = job_cmp b.0 a.0

abbrev pub is_before : RunningJob → RunningJob → Bool
is_before a b = is_lt (job_cmp a b)

-- the first one, before which there is none; nothing, if there are no jobs
abbrev pub IsSoonest : Option RunningJob → List RunningJob → Type 0
IsSoonest None jobs = jobs ≡ []
IsSoonest (Some job) jobs = (slice_get jobs 0 ≡ Some job) × AllByRecursion (λ other. is_before other job ≡ false) jobs

-- what numbers of jobs come to
abbrev pub total : (RunningJob → ℕ) → List RunningJob → ℕ
total of_job [] = 0
total of_job (job ∷ jobs) = of_job job + total of_job jobs

-- the same jobs, each as many times, in any order
abbrev pub SameJobs : List RunningJob → List RunningJob → Type 0
SameJobs jobs others = (of_job : RunningJob → ℕ) → total of_job jobs ≡ total of_job others
