-- What contracts see of a machine.
use Rattle.std.specs.Prelude.{ℕ, ◌≡◌, ◌≢◌, ◌⊎◌, ◌+◌, List, ◌++◌, ◌∷◌, [], true, false, Option, Some, None, option_map, map, find, take, slice_get, is_some, IsTrue, if◌then◌else◌}
use Rattle.std.specs.List.{list_all}
use Rattle.resil_admission.specs.Words.{PlanView, RunView, IsValue, Sizes, started, taken, unfinished, next_number, is_same_id, is_among, IsAllowed, AdmitError, Id, Reply, Core, Queued, Extra, Full, Closed, Event, Accepted, Row}
use Rattle.resil_rule.specs.declared.error.AdmitError.TheVariants as refused
use Rattle.resil_rule.specs.declared.event.Event.TheVariants as event

-- the limits, the history, how many of the jobs with a worker of their own were picked (the oldest ones), and each accepted
-- job with its plan, and with its run if it has one, in order of acceptance
pub record MachineView : Type 0 where
  pub limits : Sizes
  pub history : List Event
  pub picked : ℕ
  pub jobs : List Accepted

-- the jobs that are out: picked or taken, and not finished
abbrev pub jobs_in_flight : MachineView → List Id
jobs_in_flight m = unfinished m.history (take m.picked (started m.history) ++ taken m.history)

-- the plan that was submitted under an id
abbrev pub plan_of : List Accepted → Id → Option PlanView
plan_of jobs id = option_map (λ job. job.plan) (find (λ job. is_same_id id job.id) jobs)

-- the machine with one more event
abbrev pub with_event : MachineView → Event → MachineView
with_event m event = record m { history = m.history ++ event ∷ [] }

-- a job that was just submitted, if it was accepted
abbrev pub newly_accepted : Id → Reply → PlanView → List Accepted
newly_accepted id Core plan = record { id = id; plan = plan; run = None } ∷ []
newly_accepted id Queued plan = record { id = id; plan = plan; run = None } ∷ []
newly_accepted id Extra plan = record { id = id; plan = plan; run = None } ∷ []
newly_accepted id Full plan = []
newly_accepted id Closed plan = []

-- the machine after a submission: the event is written, and an accepted job is kept with its plan
abbrev pub with_submission : MachineView → Id → Reply → PlanView → MachineView
with_submission m id reply plan = record m {
  history = m.history ++ event.Submit id reply ∷ [];
  jobs = m.jobs ++ newly_accepted id reply plan;
}

-- the jobs, with this run for the one of this id
abbrev pub with_run : List Accepted → Id → RunView → List Accepted
with_run [] id run = []
with_run (job ∷ jobs) id run = if is_same_id id job.id then record job { run = Some run } ∷ jobs else job ∷ with_run jobs id run

-- the machine after the end of a run: the event is written, and the run is kept
abbrev pub with_finish : MachineView → Id → RunView → MachineView
with_finish m id run = record m { history = m.history ++ event.Finish id ∷ []; jobs = with_run m.jobs id run }

-- the oldest job with a worker of its own that hasn't been picked yet
abbrev pub next_started : MachineView → Option Id
next_started m = slice_get (started m.history) m.picked

-- A job was picked: the oldest one with a worker of its own that hasn't been picked yet, without an event; if there is none,
-- the one that may be taken from the front of the queue.
abbrev pub IsPicked : MachineView → Id → MachineView → Type 0
IsPicked m id after =
    ((next_started m ≡ Some id) × (after ≡ record m { picked = m.picked + 1 }))
    ⊎ ((next_started m ≡ None) × IsAllowed m.limits m.history (event.Take id) × (after ≡ with_event m (event.Take id)))

-- There is a job to pick.
abbrev pub HasOneToPick : MachineView → Type 0
HasOneToPick m = (id : Id) × (after : MachineView) × IsPicked m id after

-- There is nothing to pick: each job with a worker of its own was picked, and none may be taken.
abbrev pub HasNoneToPick : MachineView → Type 0
HasNoneToPick m = (next_started m ≡ None) × ((id : Id) → ¬ IsAllowed m.limits m.history (event.Take id))

-- why a submission is refused: first its number, then memory
abbrev pub IsSubmitRefusal : MachineView → Id → AdmitError → Type 0
IsSubmitRefusal m id refused.WrongNumber = id.number ≢ next_number m.history id.caller
IsSubmitRefusal m id refused.Memory = id.number ≡ next_number m.history id.caller
IsSubmitRefusal m id _ = ⊥

-- why the end of a run is refused: no job of that id is out, or one is, but another plan was submitted under its id
abbrev pub IsFinishRefusal : MachineView → Id → PlanView → AdmitError → Type 0
IsFinishRefusal m id plan refused.NotOut = is_among id (jobs_in_flight m) ≡ false
IsFinishRefusal m id plan refused.OtherJob =
    (is_among id (jobs_in_flight m) ≡ true) × (submitted : PlanView) × (plan_of m.jobs id ≡ Some submitted) × (submitted ≢ plan)
IsFinishRefusal m id plan _ = ⊥

-- each job has its run
abbrev pub AllDone : List Accepted → Type 0
AllDone jobs = IsTrue (list_all (λ job. is_some job.run) jobs)

-- a row is the result of a job: its id, and its run, which is a value of its plan
pub record IsResultOf (job : Accepted) (row : Row) : Type 0 where
  pub id : row.id ≡ job.id
  pub run : job.run ≡ Some row.run
  pub plan : row.run.plan ≡ job.plan
  pub value : IsValue row.run

-- the results of jobs: one row for each, in their order
abbrev pub AreResultsOf : List Accepted → List Row → Type 0
AreResultsOf [] [] = Unit {0}
AreResultsOf (job ∷ jobs) (row ∷ rows) = IsResultOf job row × AreResultsOf jobs rows
AreResultsOf _ _ = ⊥

-- the ids of jobs, in their order
abbrev pub ids_of : List Accepted → List Id
ids_of jobs = map (λ job. job.id) jobs
