-- What a seat has seen, the log: what each turn wrote, with the plan for each submission and the run for each finish; and how a call lets it grow.
use Rattle.std.specs.Prelude.{ℕ, ◌≡◌, ◌≤◌, ◌==◌, ◌∷◌, [], Bool, false, List, All, Option, Some, None, map, option_map, filter, if◌then◌else◌}
use Rattle.std.specs.List.{filter_map}
use Rattle.resil_pool.specs.Words.{PlanView, RunView, Sizes, accepted_id, is_same_id, IsLegal, MachineView, Accepted, Row, Id, Event, Submit, Finish, Close, LoggedEvent, Note}
use Rattle.resil_lock.specs.declared.log.Note.TheVariants as note
use Rattle.resil_permit.specs.Log.Seen as shared
pub use Rattle.resil_lock.specs.Log.{event_of, events_in, picked_in, ended_in, IsBalanced}

abbrev pub log_event : Option PlanView → Event → LoggedEvent
log_event plan event = record { note = note.Event event; payload = record { plan = plan; ended = None } }

-- a submission names a caller from 1 to this many
abbrev pub NamesCaller : ℕ → Event → Type 0
NamesCaller callers (Submit id reply) = (1 ≤ id.caller) × (id.caller ≤ callers)
NamesCaller callers _ = Unit {0}

-- each submission in the history names a caller from 1 to this many
abbrev pub AllNameCallers : ℕ → List Event → Type 0
AllNameCallers callers history = All (NamesCaller callers) history

-- the number of the closer's seat
abbrev pub closer_number : ℕ
closer_number = 0

-- a caller's own events are its submissions, and the closer's is the closing; a take, a finish, an idle end and a resize are nobody's own
abbrev pub is_own_event : ℕ → Event → Bool
is_own_event number (Submit id reply) = id.caller == number
is_own_event number Close = number == closer_number
is_own_event number _ = false

abbrev pub is_own_note : ℕ → Note → Bool
is_own_note number (note.Event event) = is_own_event number event
is_own_note number (note.Started id) = false

abbrev pub is_own : ℕ → LoggedEvent → Bool
is_own number n = is_own_note number n.note

abbrev pub own_in : ℕ → List LoggedEvent → List LoggedEvent
own_in number log = filter (is_own number) log

-- a log is legal if its events are legal by the rule of admission
abbrev pub IsLegalLog : Sizes → List LoggedEvent → Type 0
IsLegalLog limits log = IsLegal limits (events_in log)

-- the job of an accepted submission: its id, and the plan that was submitted
abbrev pub accepted_of : Note → Option Id
accepted_of (note.Event event) = accepted_id event
accepted_of (note.Started id) = None

abbrev pub logged_plan : LoggedEvent → Option (Id × Option PlanView)
logged_plan n = option_map (λ id. (id, n.payload.plan)) (accepted_of n.note)

-- the accepted jobs with their plans, in order of acceptance
abbrev pub plans_in : List LoggedEvent → List (Id × Option PlanView)
plans_in log = filter_map logged_plan log

abbrev pub plan_entry : Accepted → Id × Option PlanView
plan_entry job = (job.id, Some job.plan)

-- the machine in its slot has these limits, this history, and the plans of the accepted jobs in it
pub record MatchesLog (limits : Sizes) (log : List LoggedEvent) (m : MachineView) : Type 0 where
  pub sized : m.limits ≡ limits
  pub history : m.history ≡ events_in log
  pub plans : map plan_entry m.jobs ≡ plans_in log

-- the run that is kept for a job
abbrev pub run_of : List Accepted → Id → Option RunView
run_of [] id = None
run_of (job ∷ jobs) id = if is_same_id id job.id then job.run else run_of jobs id

-- the job that a turn ended, with the run that is kept for it
abbrev pub run_ended_by : List Accepted → Note → Option Row
run_ended_by jobs (note.Event (Finish id)) = option_map (λ run. record { id = id; run = run }) (run_of jobs id)
run_ended_by jobs _ = None

-- what a turn wrote, with this plan, if it left the machine with these jobs
abbrev pub logged : Option PlanView → List Accepted → Note → LoggedEvent
logged plan jobs written = record { note = written; payload = record { plan = plan; ended = run_ended_by jobs written } }

-- the pick of a job with a worker of its own, and the end of a job with its run
abbrev pub start_of : Id → LoggedEvent
start_of id = record { note = note.Started id; payload = record { plan = None; ended = None } }

abbrev pub finish_of : Id → RunView → LoggedEvent
finish_of id run = record { note = note.Event (Finish id); payload = record { plan = None; ended = Some (record { id = id; run = run }) } }

-- the runs with which these entries end jobs
abbrev pub runs_in : List LoggedEvent → List Row
runs_in log = filter_map (λ n. n.payload.ended) log

-- more is seen, a legal history, with no more events of the seat's own
abbrev pub SeesMore : Sizes → ℕ → List LoggedEvent → List LoggedEvent → Type 0
SeesMore limits number old new = shared.SeesMore IsLegalLog is_own limits number old new

-- more is seen, a legal history, with one more event of the seat's own, which ends it
abbrev pub SeesOwn : Sizes → ℕ → List LoggedEvent → LoggedEvent → List LoggedEvent → Type 0
SeesOwn limits number old own new = shared.SeesOwn IsLegalLog is_own limits number old own (λ _. Unit {0}) new
