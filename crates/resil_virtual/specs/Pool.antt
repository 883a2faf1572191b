-- What is true of a pool in virtual time between two steps.
use Rattle.std.specs.Prelude.{ℕ, suc, ◌≡◌, ◌≤◌, ◌<◌, ◌+◌, ◌-◌, ◌*◌, ◌==◌, ◌&&◌, ◌⊎◌, ◌^◌, ◌++◌, ◌∷◌, [], Bool, false, List, Option, Some, All, IfSome, filter, is_some, length, map, max, nat_lt, not, slice_get, sum, take, if◌then◌else◌}
use Rattle.resil_rule.specs.Limits.{Sizes}
use Rattle.resil_rule.specs.History.{times}
use Rattle.resil_rule.specs.Timed.{AreAscending}
use Rattle.resil_rule.specs.declared.event.Id.{Id}
use Rattle.resil_jdk.specs.Admission.{IsLegal}
use Rattle.resil_jdk.specs.Limits.{AreJdkLimits}
use Rattle.resil_jdk.specs.History.{core_size, is_closed, is_stopped, max_size, running, times_out, waiting, workers}
use Rattle.resil_jdk.specs.declared.event.JdkReply.{JdkReply}
use Rattle.resil_jdk.specs.declared.event.JdkReply.TheVariants.{Core, First, Queued, Handed, Extra, Full}
use Rattle.resil_jdk.specs.declared.event.JdkEvent.{JdkEvent}
use Rattle.resil_jdk.specs.declared.event.JdkEvent.TheVariants.{Finish}
use Rattle.resil_jdk.specs.Timed.{events_in, times_in}
use Rattle.resil_jdk.specs.declared.timed.TimedJdkEvent.{TimedJdkEvent}
use Rattle.resil_virtual.specs.Load.{IsLoad, earliest_ends_of, latest, runs_of}
use Rattle.resil_virtual.specs.Due.{earliest_end_of, ends_at, finishes, idle_after, just_finished, last_at, looks_at, looks_of, next_due, none_waits, submissions_at, submissions_of, takes_of}
use Rattle.resil_virtual.specs.Simulated.{history_after, opening}
use Rattle.resil_virtual.specs.declared.arrival.Arrival.{Arrival}
use Rattle.resil_virtual.specs.Jobs.{SameJobs, begun_at, id_of}
use Rattle.resil_virtual.specs.declared.jobs.RunningJob.{RunningJob}
use Rattle.resil_virtual.specs.declared.idle.Idle.{Idle}
use Rattle.resil_virtual.specs.declared.pool.Simulation.{Simulation}
use Rattle.resil_virtual.specs.declared.virtual_pool.VirtualPool.{VirtualPool}

-- whether a worker looks, or may end, at a time
abbrev pub is_free : Bool → ℕ → Idle → Bool
is_free by_look at worker = if by_look then looks_at at worker else ends_at at worker

-- the finish of a job that runs
abbrev pub finish_at : RunningJob → TimedJdkEvent
finish_at job = record { event = Finish (id_of job); at = job.due }

-- the jobs that finishes are of
abbrev pub job_of : JdkEvent → Id
job_of (Finish id) = id
job_of _ = record { caller = 0; number = 0 }

-- the answer of an open pool to a submission
abbrev pub reply_by : Sizes → ℕ → ℕ → ℕ → JdkReply
reply_by limits workers waits runs =
    if nat_lt workers limits.core then Core
    else if nat_lt waits limits.queue then (if workers == 0 then First else Queued)
    else if (limits.queue == 0) && nat_lt runs workers then Handed
    else if nat_lt workers limits.max then Extra
    else Full

-- how many workers may stay
abbrev pub kept : VirtualPool → ℕ
kept pool = if pool.time_out then 0 else pool.limits.core

-- how many workers never end as things are
abbrev pub staying : List Idle → ℕ
staying idle = length (filter (λ worker. not (is_some worker.end)) idle)

-- how long the jobs run that wait
abbrev pub to_run : List Arrival → List JdkEvent → ℕ
to_run arrivals events = sum (map (takes_of arrivals) (waiting events))

-- how long the jobs run that were submitted, with a time to wake for each
abbrev pub submitted_run : VirtualPool → List Arrival → ℕ → ℕ
submitted_run pool arrivals next = sum (runs_of (take next arrivals)) + pool.wakes * next

-- the latest of the earliest ends of the jobs that were submitted
abbrev pub submitted_end : List Arrival → ℕ → ℕ
submitted_end arrivals next = latest (earliest_ends_of (take next arrivals))

-- whether the worker that has just finished a job takes another one
abbrev pub own : List JdkEvent → ℕ
own events = if just_finished events then (if none_waits events then 0 else 1) else 0

-- Each is of this time or later; and a look with what is to run is within a bound.
pub record IsFrom (at run bound : ℕ) (worker : Idle) : Type 0 where
  pub end : IfSome worker.end (λ end. at ≤ end)
  pub look : IfSome worker.look (λ look. (at ≤ look) × (look + run ≤ bound))

-- All ends within 64 bits: nothing that waits or runs goes on after a bound.
pub record IsInTime (pool : VirtualPool) (arrivals : List Arrival) (next : ℕ) (history : List TimedJdkEvent) : Type 0 where
  pub bound : ℕ
  pub fits : bound + pool.idle_for < 2 ^ 64
  pub before : IfSome (slice_get arrivals next) (λ a. bound ≤ max a.at (submitted_end arrivals next) + submitted_run pool arrivals next)
  pub spent : to_run arrivals (events_in history) ≤ sum (runs_of (take next arrivals))
  pub ends : All (λ id. earliest_end_of arrivals id + to_run arrivals (events_in history) ≤ bound) (waiting (events_in history))
  pub jobs : All (λ finish. (last_at history ≤ finish.at) × (finish.at + to_run arrivals (events_in history) ≤ bound)) (finishes arrivals history)
  pub idle : All (IsFrom (last_at history) (to_run arrivals (events_in history)) bound) (idle_after pool history)
  pub now : (waiting (events_in history) ≡ []) ⊎ (last_at history + to_run arrivals (events_in history) ≤ bound)

-- Each event was due next.
abbrev pub AreDue : VirtualPool → List Arrival → List TimedJdkEvent → List TimedJdkEvent → Type 0
AreDue pool arrivals before [] = Unit {0}
AreDue pool arrivals before (timed ∷ history) = (next_due pool arrivals before ≡ Some timed) × AreDue pool arrivals (before ++ timed ∷ []) history

-- The pool is open, as it was opened.
pub record IsOpen (pool : VirtualPool) (events : List JdkEvent) : Type 0 where
  pub unclosed : is_closed events ≡ false
  pub unstopped : is_stopped events ≡ false
  pub core : core_size pool.limits events ≡ pool.limits.core
  pub max : max_size pool.limits events ≡ pool.limits.max
  pub time_out : times_out events ≡ pool.time_out

-- the jobs whose finishes are to come
abbrev pub ids_to_come : List Arrival → List TimedJdkEvent → List Id
ids_to_come arrivals history = map (λ finish. job_of finish.event) (finishes arrivals history)

-- What is true of a history whose events were due.
pub record AreSound (pool : VirtualPool) (arrivals : List Arrival) (next : ℕ) (history : List TimedJdkEvent) : Type 0 where
  pub load : IsLoad pool.idle_for pool.wakes arrivals
  pub sizes : AreJdkLimits pool.limits
  pub rest : List TimedJdkEvent
  pub opens : history ≡ opening pool ++ rest
  pub events : AreDue pool arrivals (opening pool) rest
  pub legal : IsLegal pool.limits (events_in history)
  pub opened : IsOpen pool (events_in history)
  pub submissions : submissions_at history ≡ submissions_of (take next arrivals)
  pub ascending : AreAscending (times_in history)
  pub arrival : IfSome (slice_get arrivals next) (λ a. last_at history ≤ a.at)
  pub jobs : (id : Id) → times id (ids_to_come arrivals history) ≡ times id (running (events_in history))
  pub crew : length (running (events_in history)) + length (idle_after pool history) + own (events_in history) ≡ workers (events_in history)
  pub staying : staying (idle_after pool history) ≤ kept pool
  -- somebody comes to a job that waits
  pub staffed : (waiting (events_in history) ≡ []) ⊎ (1 ≤ length (running (events_in history)) + own (events_in history) + length (looks_of (idle_after pool history)))
  pub in_time : IsInTime pool arrivals next history

-- A job is the one of its id in a load: it takes as long, and ends no earlier.
abbrev pub HasRun : List Arrival → Arrival → Type 0
HasRun arrivals job = (takes_of arrivals job.id ≡ job.takes) × (earliest_end_of arrivals job.id ≡ job.earliest_end)

-- Jobs in the order in which they began, from one place in it up to another one.
abbrev pub AreInOrder : ℕ → ℕ → List RunningJob → Type 0
AreInOrder low high [] = low ≤ high
AreInOrder low high (job ∷ jobs) = (low ≤ job.order) × AreInOrder (suc job.order) high jobs

-- The jobs that run are those whose finishes are to come.
pub record AreRunning (arrivals : List Arrival) (steps : ℕ) (jobs : List RunningJob) (history : List TimedJdkEvent) : Type 0 where
  pub begun : List RunningJob
  pub same : SameJobs begun jobs
  pub ordered : AreInOrder 0 steps begun
  pub finishes_are : map finish_at begun ≡ finishes arrivals history

-- What is true of the parts of a pool.
pub record AreParts (pool : VirtualPool) (arrivals : List Arrival) (next workers_now now : ℕ) (own_look : Bool) (steps : ℕ) (queue : List Arrival) (jobs : List RunningJob) (idle : List Idle) (history : List TimedJdkEvent) : Type 0 where
  pub sound : AreSound pool arrivals next history
  pub workers_are : workers_now ≡ workers (events_in history)
  pub now_is : now ≡ last_at history
  pub own_is : own_look ≡ just_finished (events_in history)
  pub queue_is : map (λ job. job.id) queue ≡ waiting (events_in history)
  pub runs_are : All (HasRun arrivals) queue
  pub jobs_are : AreRunning arrivals steps jobs history
  pub idle_are : idle ≡ idle_after pool history

-- What others see of a simulation: its pool, its load, and what has happened so far, with the opening.
abbrev pub plan_of : Simulation → VirtualPool
plan_of s = s.plan

abbrev pub arrivals_of : Simulation → List Arrival
arrivals_of s = s.arrivals.now

abbrev pub history_of : Simulation → List TimedJdkEvent
history_of s = history_after s.plan s.arrivals.now s.steps

abbrev pub HasParts : Simulation → ℕ → List TimedJdkEvent → Type 0
HasParts s steps history = AreParts s.plan s.arrivals.now s.next s.workers s.time s.own_look steps s.queue.items s.running.items s.idle.items history

-- how much is left to do, by a number that each event lowers
abbrev pub left : VirtualPool → List Arrival → ℕ → List TimedJdkEvent → ℕ
left pool arrivals next history = 5 * (length arrivals - next) + 3 * length (waiting (events_in history)) + 2 * length (running (events_in history)) + length (idle_after pool history)

abbrev pub left_in : Simulation → ℕ
left_in s = left s.plan s.arrivals.now s.next (history_of s)

-- What is true of a simulation between two events: `parts.sound` has what is true of what has happened.
pub record IsPool (s : Simulation) : Type 0 where
  pub parts : HasParts s s.steps (history_of s)
  pub counted : s.steps + left_in s ≤ 5 * length s.arrivals.now

-- where a job goes that is answered so: into the queue, or to a worker
abbrev pub to_queue : JdkReply → Arrival → List Arrival
to_queue First job = job ∷ []
to_queue Queued job = job ∷ []
to_queue _ job = []

abbrev pub to_worker : ℕ → JdkReply → Arrival → List RunningJob
to_worker steps Core job = begun_at job.at steps job ∷ []
to_worker steps Handed job = begun_at job.at steps job ∷ []
to_worker steps Extra job = begun_at job.at steps job ∷ []
to_worker steps _ job = []

-- what is due next in a pool
abbrev pub due_in : Simulation → Option TimedJdkEvent
due_in s = next_due s.plan s.arrivals.now (history_of s)
