-- What is known of a history when its events have been counted one by one, and none of them is kept.
use Rattle.std.specs.Prelude.{ℕ, ◌≡◌, ◌<◌, ◌+◌, ◌-◌, ◌^◌, ◌++◌, ◌∷◌, [], All, List, None, Option, Some, drop, filter, length, map, not, option_map, slice_get, slice_index}
use Rattle.resil_rule.specs.History.{is_same_id}
use Rattle.resil_jdk.specs.History.{waiting, workers}
use Rattle.resil_jdk.specs.Timed.{events_in, times_in}
use Rattle.resil_jdk.specs.declared.event.JdkReply.TheVariants.{Core, First, Queued, Handed, Extra}
use Rattle.resil_jdk.specs.declared.event.JdkEvent.{JdkEvent}
use Rattle.resil_jdk.specs.declared.event.JdkEvent.TheVariants.{Submit, Take, Remove}
use Rattle.resil_jdk.specs.declared.timed.TimedJdkEvent.{TimedJdkEvent}
use Rattle.resil_stats.specs.Spans.{came_at, jdk_waits}
use Rattle.resil_stats.specs.Stats.{AreJdkMost, IsJdkLoadAfter, is_full, is_submit}
use Rattle.resil_simulate.specs.Numbers.{HasTimes, area, run_time, running_count, worker_time}
use Rattle.resil_simulate.specs.declared.tally.Spent.{Spent}
use Rattle.resil_simulate.specs.declared.tally.Submissions.{Submissions}
use Rattle.resil_simulate.specs.declared.tally.Tally.{Tally}
use Rattle.resil_simulate.specs.declared.tally.WaitingJob.{WaitingJob}

-- ---- What is known after a history.

-- How many jobs were submitted, and how many of them the full pool refused.
pub record AreSubmissionsOf (events : List JdkEvent) (submissions : Submissions) : Type 0 where
  pub all : submissions.all ≡ length (filter is_submit events)
  pub refused : submissions.refused ≡ length (filter is_full events)

-- The jobs that wait, each with the time of its submission, and how long the jobs waited that started.
pub record AreWaitsOf (events : List JdkEvent) (times : List ℕ) (jobs : List WaitingJob) (waits : List ℕ) : Type 0 where
  pub queue : map (λ job. job.id) jobs ≡ waiting events
  pub came : All (λ job. came_at events times job.id ≡ Some job.at) jobs
  pub done : waits ≡ jdk_waits 0 times events

-- The time of the last event; and the time of jobs and of workers up to that event, and up to the last finish.
pub record IsSpentIn (events : List JdkEvent) (times : List ℕ) (spent : Spent) : Type 0 where
  pub time : spent.time ≡ slice_index times (length times - 1)
  pub so_far_run : spent.so_far.run_time ≡ area running_count events times (length events - 1)
  pub so_far_worker : spent.so_far.worker_time ≡ area workers events times (length events - 1)
  pub finished_run : spent.finished.run_time ≡ run_time events times
  pub finished_worker : spent.finished.worker_time ≡ worker_time events times

-- A tally is the one of a history.
pub record IsTallyOf (history : List TimedJdkEvent) (tally : Tally) : Type 0 where
  pub submissions : AreSubmissionsOf (events_in history) tally.submissions
  pub load : IsJdkLoadAfter (events_in history) tally.load
  pub most : AreJdkMost (events_in history) tally.most
  pub waits : AreWaitsOf (events_in history) (times_in history) tally.waits.queue.items tally.waits.done.items
  pub spent : IsSpentIn (events_in history) (times_in history) tally.spent

-- a legal history of a pool whose times ascend
abbrev pub IsTimed : List TimedJdkEvent → Type 0
IsTimed history = HasTimes (events_in history) (times_in history)

-- ---- What an event needs, and what it changes.

-- the submissions are those of some events that one more may follow
abbrev pub MaySubmit : Submissions → Type 0
MaySubmit submissions = (events : List JdkEvent) × AreSubmissionsOf events submissions × (length events + 1 < 2 ^ 64)

-- the tally is the one of a history that the event may follow
abbrev pub MayAdd : Tally → TimedJdkEvent → Type 0
MayAdd tally timed = (history : List TimedJdkEvent) × IsTallyOf history tally × IsTimed (history ++ timed ∷ []) × (length history + 1 < 2 ^ 64)

-- the tally is the one of a legal history
abbrev pub HasHistory : Tally → Type 0
HasHistory tally = (history : List TimedJdkEvent) × IsTallyOf history tally × IsTimed history

-- the jobs that wait after an event at a time
abbrev pub queue_by : JdkEvent → ℕ → List WaitingJob → List WaitingJob
queue_by (Submit id First) at queue = queue ++ record { id = id; at = at } ∷ []
queue_by (Submit id Queued) at queue = queue ++ record { id = id; at = at } ∷ []
queue_by (Take id) at queue = drop 1 queue
queue_by (Remove id) at queue = filter (λ job. not (is_same_id id job.id)) queue
queue_by event at queue = queue

-- the wait that ends with an event at a time
abbrev pub wait_by : JdkEvent → ℕ → List WaitingJob → Option ℕ
wait_by (Submit id Core) at queue = Some 0
wait_by (Submit id Handed) at queue = Some 0
wait_by (Submit id Extra) at queue = Some 0
wait_by (Take id) at queue = option_map (λ job. at - job.at) (slice_get queue 0)
wait_by event at queue = None
