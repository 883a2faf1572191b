-- Which event may follow a history (ThreadPoolExecutor class documentation), and which histories are legal.
use Rattle.std.specs.Prelude.{◌≡◌, ◌<◌, ◌≤◌, ◌+◌, ◌⊎◌, ◌++◌, ◌∷◌, [], true, false, List, Some, length, nat_lt, slice_get, if◌then◌else◌}
use Rattle.resil_rule.specs.Limits.{Sizes, AreSizesWithin}
use Rattle.resil_rule.specs.History.{workers, waiting, running, finished, accepted, is_closed, is_among, times, next_number, core_size, max_size}
use Rattle.resil_rule.specs.declared.event.Id.{Id}
use Rattle.resil_rule.specs.declared.event.Reply.{Reply}
use Rattle.resil_rule.specs.declared.event.Reply.TheVariants.{Core, Queued, Extra, Full, Closed}
use Rattle.resil_rule.specs.declared.event.Event.{Event}
use Rattle.resil_rule.specs.declared.event.Event.TheVariants.{Submit, Take, Finish, IdleEnd, Close, Resized}

-- The reply to a submission, by the sizes after the history: the first case that fits.
abbrev pub reply_after : Sizes → List Event → Reply
reply_after limits history =
    if is_closed history then Closed
    else if nat_lt (workers history) (core_size limits history) then Core
    else if nat_lt (length (waiting history)) limits.queue then Queued
    else if nat_lt (workers history) (max_size limits history) then Extra
    else Full

-- Some worker runs no job.
abbrev pub HasIdleWorker : List Event → Type 0
HasIdleWorker history = length (running history) < workers history

-- The event may follow the history in a pool that was opened with these limits.
abbrev pub IsAllowed : Sizes → List Event → Event → Type 0
IsAllowed limits history (Submit id reply) = (id.number ≡ next_number history id.caller) × (reply ≡ reply_after limits history)
IsAllowed limits history (Take id) = (slice_get (waiting history) 0 ≡ Some id) × HasIdleWorker history
IsAllowed limits history (Finish id) = is_among id (running history) ≡ true
IsAllowed limits history IdleEnd = (waiting history ≡ []) × HasIdleWorker history × ((core_size limits history < workers history) ⊎ (is_closed history ≡ true))
IsAllowed limits history Close = is_closed history ≡ false
IsAllowed limits history (Resized core max) = AreSizesWithin limits core max

-- Each of these events is allowed after those before it.
abbrev pub AreAllowedAfter : Sizes → List Event → List Event → Type 0
AreAllowedAfter limits before [] = Unit {0}
AreAllowedAfter limits before (event ∷ events) = IsAllowed limits before event × AreAllowedAfter limits (before ++ event ∷ []) events

-- A legal history: each event is allowed after the events before it.
abbrev pub IsLegal : Sizes → List Event → Type 0
IsLegal limits history = AreAllowedAfter limits [] history

-- If the core size at the opening is at most the maximum size at the opening, then a legal history never has more workers than that maximum
-- size, whatever the sizes are by then.
abbrev pub WorkersWithinOpening : Type 0
WorkersWithinOpening = (limits : Sizes) (history : List Event) → limits.core ≤ limits.max → IsLegal limits history → workers history ≤ limits.max

-- In a legal history no more jobs run than there are workers.
abbrev pub RunningWithinWorkers : Type 0
RunningWithinWorkers = (limits : Sizes) (history : List Event) → IsLegal limits history → length (running history) ≤ workers history

-- About the jobs with one id: those that were accepted are those that wait, run or are finished, and there is at most one.
pub record IsConserved (history : List Event) (id : Id) : Type 0 where
  pub sum : times id (accepted history) ≡ times id (waiting history) + times id (running history) + times id (finished history)
  pub once : times id (accepted history) ≤ 1

-- In a legal history no job is lost and none is there twice: each accepted job waits, runs or is finished, and is in only one of these states.
abbrev pub JobsConserved : Type 0
JobsConserved = (limits : Sizes) (history : List Event) → IsLegal limits history → (id : Id) → IsConserved history id
