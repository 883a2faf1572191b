-- Histories of small pools, to read the definitions against: each shows something for which `resil_rule` has no word.
use Rattle.std.specs.Prelude.{ℕ, List, [], ◌∷◌, true}
use Rattle.resil_rule.specs.Limits.{Sizes}
use Rattle.resil_rule.specs.declared.event.Id.{Id}
use Rattle.resil_jdk.specs.declared.event.JdkReply.TheVariants.{Core, First, Queued, Handed, Extra, Full, Closed}
use Rattle.resil_jdk.specs.declared.event.JdkEvent.{JdkEvent}
use Rattle.resil_jdk.specs.declared.event.JdkEvent.TheVariants.{Submit, Take, Finish, IdleEnd, Close, Resized, Start, Cull, Remove, Stop, TimeOut}

abbrev pub sizes : ℕ → ℕ → ℕ → Sizes
sizes core max queue = record { core = core; max = max; queue = queue }

-- a submission of caller 1
abbrev pub job : ℕ → Id
job number = record { caller = 1; number = number }

-- core size 0, maximum size 2, queue 1: the first job waits and a worker begins; a second worker comes once the queue is full
abbrev pub core_zero : List JdkEvent
core_zero = Submit (job 1) First ∷ Take (job 1) ∷ Submit (job 2) Queued ∷ Submit (job 3) Extra ∷ Submit (job 4) Full ∷ Finish (job 1) ∷ Take (job 2) ∷ Finish (job 2) ∷ IdleEnd
    ∷ Finish (job 3) ∷ IdleEnd ∷ []

-- core size 0, maximum size 2, no queue (a small cached pool): an idle worker is reused, and a new one comes if there is none
abbrev pub cached : List JdkEvent
cached = Submit (job 1) Extra ∷ Submit (job 2) Extra ∷ Submit (job 3) Full ∷ Finish (job 1) ∷ Submit (job 4) Handed ∷ Finish (job 4) ∷ Finish (job 2) ∷ IdleEnd ∷ IdleEnd ∷ []

-- core size 1, maximum size 2, queue 1: after a resize to 1 and 1 a worker ends although a job waits, which the other worker takes
abbrev pub culled : List JdkEvent
culled = Submit (job 1) Core ∷ Submit (job 2) Queued ∷ Submit (job 3) Extra ∷ Resized 1 1 ∷ Finish (job 1) ∷ Cull ∷ Finish (job 3) ∷ Take (job 2) ∷ []

-- core size 1, maximum size 1, queue 2: stopped, the pool hands back what waits, and its worker ends
abbrev pub stopped : List JdkEvent
stopped = Submit (job 1) Core ∷ Submit (job 2) Queued ∷ Submit (job 3) Queued ∷ Stop ∷ Remove (job 2) ∷ Remove (job 3) ∷ Submit (job 4) Closed ∷ Finish (job 1) ∷ IdleEnd ∷ []

-- core size 1, maximum size 1, queue 1: the core worker begins before the first job, and times out before it and after it
abbrev pub timed_out : List JdkEvent
timed_out = TimeOut true ∷ Start ∷ IdleEnd ∷ Submit (job 1) Core ∷ Finish (job 1) ∷ IdleEnd ∷ []

-- core size 1, maximum size 1, queue 1: the oldest job is discarded, and the newest is queued (`DiscardOldestPolicy`)
abbrev pub discarded : List JdkEvent
discarded = Submit (job 1) Core ∷ Submit (job 2) Queued ∷ Submit (job 3) Full ∷ Remove (job 2) ∷ Submit (job 4) Queued ∷ Close ∷ Finish (job 1) ∷ Take (job 4) ∷ []

-- core size 0, maximum size 2, queue 1: a job waits, and there is no worker for it
abbrev pub queued_without_worker : List JdkEvent
queued_without_worker = Submit (job 1) Queued ∷ []

-- core size 0, maximum size 1, no queue: there is no idle worker
abbrev pub handed_to_nobody : List JdkEvent
handed_to_nobody = Submit (job 1) Handed ∷ []

-- core size 1, maximum size 1, queue 1: the job has left the queue
abbrev pub removed_then_taken : List JdkEvent
removed_then_taken = Submit (job 1) Core ∷ Submit (job 2) Queued ∷ Remove (job 2) ∷ Finish (job 1) ∷ Take (job 2) ∷ []

-- core size 1, maximum size 1, queue 1: a stopped pool takes no job
abbrev pub taken_when_stopped : List JdkEvent
taken_when_stopped = Submit (job 1) Core ∷ Submit (job 2) Queued ∷ Finish (job 1) ∷ Stop ∷ Take (job 2) ∷ []

-- core size 1, maximum size 2, queue 1: no more workers than the maximum size, so none is culled
abbrev pub culled_within_maximum : List JdkEvent
culled_within_maximum = Submit (job 1) Core ∷ Submit (job 2) Queued ∷ Finish (job 1) ∷ Cull ∷ []

-- core size 1, maximum size 1, queue 1: no worker begins once the pool is stopped
abbrev pub started_when_stopped : List JdkEvent
started_when_stopped = Stop ∷ Start ∷ []
