-- What contracts see of a job that is kept until its row is made.
use Rattle.std.specs.Prelude.{◌≡◌, Bool, false, None, Some}
use Rattle.std.specs.Option.{is_some}
use Rattle.resil_admission.specs.Words.{PlanView, Id, Accepted, Progress, Unfinished, Finished}

-- the accepted job, and whether it is still to be picked
pub record KeptView : Type 0 where
  pub job : Accepted
  pub unpicked : Bool

-- the job of an id: with its plan, or with its run and the run's plan
abbrev pub kept_at : Id → Progress → KeptView
kept_at id (Unfinished job plan) = record { job = record { id = id; plan = plan; run = None }; unpicked = is_some job }
kept_at id (Finished run) = record { job = record { id = id; plan = run.plan; run = Some run }; unpicked = false }

-- a job that hasn't been picked yet runs the plan that is kept
abbrev pub HasOwnPlan : Progress → Type 0
HasOwnPlan (Unfinished job plan) = (own : PlanView) → job ≡ Some own → own ≡ plan
HasOwnPlan (Finished run) = Unit {0}
