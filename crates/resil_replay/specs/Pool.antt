-- The jobs that are out in the pool of a replay: those that were picked and haven't finished.
use Rattle.std.specs.Prelude.{◌≡◌, ◌++◌, [], ◌∷◌, true, List, Some, length, map}
use Rattle.resil_decor.specs.Plan.{PlanView}
use Rattle.resil_rule.specs.History.{started, running, is_among}
use Rattle.resil_admission.specs.MachineView.{MachineView, plan_of}
use Rattle.resil_rule.specs.declared.event.Id.{Id}
use Rattle.resil_admission.specs.declared.jobs.Accepted.{Accepted}

-- the ids of the jobs that are out
abbrev pub ids_in_flight : List (Id × PlanView) → List Id
ids_in_flight out = map (λ job. job.0) out

-- the job of an id, with this plan, was removed, and the others stay in their order
abbrev pub IsRemoved : List (Id × PlanView) → Id → PlanView → List (Id × PlanView) → Type 0
IsRemoved out id plan left = (prefix : List (Id × PlanView)) × (rest : List (Id × PlanView)) × (out ≡ prefix ++ (id, plan) ∷ rest) × (left ≡ prefix ++ rest)

-- each job of a list has the plan that was submitted under its id
abbrev pub HavePlans : List Accepted → List (Id × PlanView) → Type 0
HavePlans jobs [] = Unit {0}
HavePlans jobs (job ∷ more) = (plan_of jobs job.0 ≡ Some job.1) × HavePlans jobs more

-- The invariant of a pool: each job with a worker of its own was picked, each job that a worker runs is out, and those
-- that are out have the plans that were submitted under their ids.
pub record ReplayPoolInvariant (m : MachineView) (out : List (Id × PlanView)) : Type 0 where
  pub picked : m.picked ≡ length (started m.history)
  pub held : (id : Id) → is_among id (running m.history) ≡ true → is_among id (ids_in_flight out) ≡ true
  pub plans : HavePlans m.jobs out
