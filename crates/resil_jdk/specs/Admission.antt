-- Which event may follow a history (ThreadPoolExecutor class documentation), and which histories are legal.
use Rattle.std.specs.Prelude.{◌≡◌, ◌<◌, ◌≤◌, ◌+◌, ◌⊎◌, ◌++◌, ◌∷◌, ◌==◌, ◌&&◌, [], true, false, List, Some, length, nat_lt, slice_get, if◌then◌else◌}
use Rattle.resil_rule.specs.Limits.{Sizes}
use Rattle.resil_rule.specs.History.{is_among, times}
use Rattle.resil_rule.specs.declared.event.Id.{Id}
use Rattle.resil_jdk.specs.Limits.{AreJdkLimits, AreSizesWithin}
use Rattle.resil_jdk.specs.History.{workers, waiting, running, finished, removed, accepted, is_closed, is_stopped, next_number, core_size, max_size, kept_size}
use Rattle.resil_jdk.specs.declared.event.JdkReply.{JdkReply}
use Rattle.resil_jdk.specs.declared.event.JdkReply.TheVariants.{Core, First, Queued, Handed, Extra, Full, Closed}
use Rattle.resil_jdk.specs.declared.event.JdkEvent.{JdkEvent}
use Rattle.resil_jdk.specs.declared.event.JdkEvent.TheVariants.{Submit, Take, Finish, IdleEnd, Close, Resized, Start, Cull, Remove, Stop, TimeOut}

-- The answer to a submission, by the sizes after the history: the first case that fits.
abbrev pub reply_after : Sizes → List JdkEvent → JdkReply
reply_after limits history =
    if is_closed history then Closed
    else if nat_lt (workers history) (core_size limits history) then Core
    else if nat_lt (length (waiting history)) limits.queue then (if workers history == 0 then First else Queued)
    else if (limits.queue == 0) && nat_lt (length (running history)) (workers history) then Handed
    else if nat_lt (workers history) (max_size limits history) then Extra
    else Full

-- Some worker runs no job.
abbrev pub HasIdleWorker : List JdkEvent → Type 0
HasIdleWorker history = length (running history) < workers history

-- The event may follow the history, in a pool that was opened with these limits.
abbrev pub IsAllowed : Sizes → List JdkEvent → JdkEvent → Type 0
IsAllowed limits history (Submit id reply) = (id.number ≡ next_number history id.caller) × (reply ≡ reply_after limits history)
IsAllowed limits history (Take id) = (slice_get (waiting history) 0 ≡ Some id) × HasIdleWorker history × (is_stopped history ≡ false)
IsAllowed limits history (Finish id) = is_among id (running history) ≡ true
IsAllowed limits history IdleEnd = (waiting history ≡ []) × HasIdleWorker history × ((kept_size limits history < workers history) ⊎ (is_closed history ≡ true))
IsAllowed limits history Close = is_closed history ≡ false
IsAllowed limits history (Resized core max) = AreSizesWithin limits core max
IsAllowed limits history Start = (workers history < core_size limits history) × (is_stopped history ≡ false) × ((is_closed history ≡ false) ⊎ (0 < length (waiting history)))
IsAllowed limits history Cull = HasIdleWorker history × ((max_size limits history < workers history) ⊎ (is_stopped history ≡ true))
IsAllowed limits history (Remove id) = is_among id (waiting history) ≡ true
IsAllowed limits history Stop = is_stopped history ≡ false
IsAllowed limits history (TimeOut on) = Unit {0}

-- Each of the events is allowed after those before it.
abbrev pub AreAllowedAfter : Sizes → List JdkEvent → List JdkEvent → Type 0
AreAllowedAfter limits before [] = Unit {0}
AreAllowedAfter limits before (event ∷ events) = IsAllowed limits before event × AreAllowedAfter limits (before ++ event ∷ []) events

-- A legal history: each event is allowed after the events before it.
abbrev pub IsLegal : Sizes → List JdkEvent → Type 0
IsLegal limits history = AreAllowedAfter limits [] history

-- In a legal history there are never more workers than the maximum size of the opening, whatever the sizes are by then.
abbrev pub WorkersWithinOpening : Type 0
WorkersWithinOpening = (limits : Sizes) (history : List JdkEvent) → AreJdkLimits limits → IsLegal limits history → workers history ≤ limits.max

-- In a legal history no more jobs run than there are workers.
abbrev pub RunningWithinWorkers : Type 0
RunningWithinWorkers = (limits : Sizes) (history : List JdkEvent) → IsLegal limits history → length (running history) ≤ workers history

-- The jobs with an id: the accepted ones are those that wait, run, are finished or were removed, and there is at most one.
pub record IsConserved (history : List JdkEvent) (id : Id) : Type 0 where
  pub sum : times id (accepted history) ≡ times id (waiting history) + times id (running history) + times id (finished history) + times id (removed history)
  pub once : times id (accepted history) ≤ 1

-- In a legal history no job is lost, and none is there twice: each accepted job waits, runs, is finished or was removed, and only one of
-- these.
abbrev pub JobsConserved : Type 0
JobsConserved = (limits : Sizes) (history : List JdkEvent) → IsLegal limits history → (id : Id) → IsConserved history id
