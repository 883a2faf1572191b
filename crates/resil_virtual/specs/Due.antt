-- What is due next in a pool that runs a load, by what has happened so far.
use Rattle.std.specs.Prelude.{ℕ, ◌+◌, ◌-◌, ◌==◌, ◌++◌, ◌∷◌, [], Bool, true, false, List, Option, Some, None, filter, find, length, map, max, nat_le, nat_lt, not, option_map, option_to_list, slice_get, take, if◌then◌else◌}
use Rattle.std.specs.List.{filter_map, list_any}
use Rattle.std.specs.Option.{option_map_or}
use Rattle.resil_rule.specs.Limits.{Sizes}
use Rattle.resil_rule.specs.History.{is_among, is_same_id, last_size}
use Rattle.resil_rule.specs.declared.event.Id.{Id}
use Rattle.resil_jdk.specs.Admission.{reply_after}
use Rattle.resil_jdk.specs.History.{finished, finished_id, kept_size, run_id, waiting, workers}
use Rattle.resil_jdk.specs.declared.event.JdkEvent.{JdkEvent}
use Rattle.resil_jdk.specs.declared.event.JdkEvent.TheVariants.{Submit, Take, Finish, IdleEnd}
use Rattle.resil_jdk.specs.declared.event.JdkReply.TheVariants.{First, Queued, Handed}
use Rattle.resil_jdk.specs.Timed.{events_in, times_in}
use Rattle.resil_jdk.specs.declared.timed.TimedJdkEvent.{TimedJdkEvent}
use Rattle.resil_virtual.specs.declared.arrival.Arrival.{Arrival}
use Rattle.resil_virtual.specs.declared.idle.Idle.{Idle}
use Rattle.resil_virtual.specs.declared.virtual_pool.VirtualPool.{VirtualPool}

-- ---- What comes first.

-- of two things, each with its time, the one that comes sooner; at one moment the first
abbrev pub sooner : {X : Type 0} → (X → ℕ) → Option X → Option X → Option X
sooner at None other = other
sooner at (Some x) None = Some x
sooner at (Some x) (Some y) = if nat_lt (at y) (at x) then Some y else Some x

-- the first one of those whose time is least
abbrev pub earliest : {X : Type 0} → (X → ℕ) → List X → Option X
earliest at [] = None
earliest at (x ∷ xs) = sooner at (Some x) (earliest at xs)

-- ---- The jobs that run.

-- the time of the last event, 0 if there is none
abbrev pub last_at : List TimedJdkEvent → ℕ
last_at history = last_size 0 (times_in history)

-- the job that a worker begins with an event
abbrev pub begun_id : JdkEvent → Option Id
begun_id (Take id) = Some id
begun_id event = run_id event

-- how long a job of a load runs
abbrev pub takes_of : List Arrival → Id → ℕ
takes_of arrivals id = option_map_or (λ a. a.takes) (find (λ a. is_same_id id a.id) arrivals) 0

-- the earliest moment at which the run of a job of a load may end
abbrev pub earliest_end_of : List Arrival → Id → ℕ
earliest_end_of arrivals id = option_map_or (λ a. a.earliest_end) (find (λ a. is_same_id id a.id) arrivals) 0

-- The finish of a job that begins at a time: when it has run its time, or at the earliest moment at which its run may end if that is later.
abbrev pub finish_from : List Arrival → ℕ → Id → TimedJdkEvent
finish_from arrivals at id = record { event = Finish id; at = max (at + takes_of arrivals id) (earliest_end_of arrivals id) }

-- the finish of the job that begins with an event
abbrev pub finish_of : List Arrival → TimedJdkEvent → Option TimedJdkEvent
finish_of arrivals timed = option_map (finish_from arrivals timed.at) (begun_id timed.event)

-- whether it is the finish of a job that isn't among those finished
abbrev pub is_to_come : List Id → TimedJdkEvent → Bool
is_to_come done finish = option_map_or (λ id. not (is_among id done)) (finished_id finish.event) false

-- the finishes that are to come, in the order in which their jobs began
abbrev pub finishes : List Arrival → List TimedJdkEvent → List TimedJdkEvent
finishes arrivals before = filter (is_to_come (finished (events_in before))) (filter_map (finish_of arrivals) before)

-- ---- The workers that have no job: when each of them may end, if ever, and when it looks for a job, if it was woken. The one that has been idle
-- longest is the first.

-- whether no job waits
abbrev pub none_waits : List JdkEvent → Bool
none_waits events = length (waiting events) == 0

-- whether there are more workers than may stay
abbrev pub has_spare : VirtualPool → List JdkEvent → Bool
has_spare pool events = nat_lt (kept_size pool.limits events) (workers events)

-- A worker that falls idle may end once it has been idle for its time, if there are more workers than may stay.
abbrev pub end_from : VirtualPool → List JdkEvent → ℕ → Option ℕ
end_from pool events at = if has_spare pool events then Some (at + pool.idle_for) else None

-- One whose time came and that didn't end, since there were no more workers than may stay, stays for good.
abbrev pub still_ends : ℕ → Option ℕ → Option ℕ
still_ends at None = None
still_ends at (Some end) = if nat_lt end at then None else Some end

-- One that has looked by then and found no job is as if it had never been woken.
abbrev pub still_looks : ℕ → Option ℕ → Option ℕ
still_looks at None = None
still_looks at (Some look) = if nat_le look at then None else Some look

-- What time alone does up to an event.
abbrev pub passed : Bool → ℕ → Idle → Idle
passed none at worker = record { end = still_ends at worker.end; look = if none then still_looks at worker.look else worker.look }

-- A worker that is woken looks once it has taken its time to wake, and doesn't end before.
abbrev pub later : ℕ → ℕ → ℕ
later look end = if nat_lt end look then look else end

abbrev pub woken : ℕ → Idle → Idle
woken look worker = record { end = option_map (later look) worker.end; look = Some look }

-- The worker that has been idle longest of those that weren't woken is woken.
abbrev pub wake_first : ℕ → List Idle → List Idle
wake_first look [] = []
wake_first look (worker ∷ idle) = option_map_or (λ other. worker ∷ wake_first look idle) worker.look (woken look worker ∷ idle)

-- whether a time is this one
abbrev pub is_at : ℕ → Option ℕ → Bool
is_at at None = false
is_at at (Some time) = time == at

abbrev pub looks_at : ℕ → Idle → Bool
looks_at at worker = is_at at worker.look

abbrev pub ends_at : ℕ → Idle → Bool
ends_at at worker = is_at at worker.end

-- the items without the first of those that pass a test
abbrev pub without_first : {X : Type 0} → (X → Bool) → List X → List X
without_first is [] = []
without_first is (x ∷ xs) = if is x then xs else x ∷ without_first is xs

-- whether the last event is a finish: its worker looks for a job at once
abbrev pub is_finish : JdkEvent → Bool
is_finish (Finish id) = true
is_finish _ = false

abbrev pub finished_last : Bool → List JdkEvent → Bool
finished_last other [] = other
finished_last other (event ∷ events) = finished_last (is_finish event) events

abbrev pub just_finished : List JdkEvent → Bool
just_finished events = finished_last false events

-- The worker that takes a job: the one that has just finished one, which isn't among the idle ones; else one that was woken, when it looks;
-- else one whose time to end comes, which looks once more.
abbrev pub without_taker : Bool → ℕ → List Idle → List Idle
without_taker own at idle = if own then idle else if list_any (looks_at at) idle then without_first (looks_at at) idle else without_first (ends_at at) idle

-- a worker that falls idle
abbrev pub fallen : Option ℕ → Idle
fallen end = record { end = end; look = None }

-- a worker that begins without a job: its time without one begins when it looks
abbrev pub begun : VirtualPool → ℕ → Idle
begun pool at = record { end = Some (at + pool.wakes + pool.idle_for); look = Some (at + pool.wakes) }

-- The idle workers after an event. A job that goes directly to an idle worker goes to the one that fell idle last.
abbrev pub idle_by : VirtualPool → List JdkEvent → List Idle → JdkEvent → ℕ → List Idle
idle_by pool events idle (Submit id First) at = idle ++ begun pool at ∷ []
idle_by pool events idle (Submit id Queued) at = wake_first (at + pool.wakes) idle
idle_by pool events idle (Submit id Handed) at = take (length idle - 1) idle
idle_by pool events idle (Take id) at = without_taker (just_finished events) at idle
idle_by pool events idle (Finish id) at = if none_waits events then idle ++ fallen (end_from pool events at) ∷ [] else idle
idle_by pool events idle IdleEnd at = without_first (ends_at at) idle
idle_by pool events idle _ at = idle

abbrev pub idle_next : VirtualPool → List TimedJdkEvent → List Idle → TimedJdkEvent → List Idle
idle_next pool before idle timed = idle_by pool (events_in before) (map (passed (none_waits (events_in before)) timed.at) idle) timed.event timed.at

abbrev pub idle_from : VirtualPool → List TimedJdkEvent → List Idle → List TimedJdkEvent → List Idle
idle_from pool before idle [] = idle
idle_from pool before idle (timed ∷ history) = idle_from pool (before ++ timed ∷ []) (idle_next pool before idle timed) history

abbrev pub idle_after : VirtualPool → List TimedJdkEvent → List Idle
idle_after pool history = idle_from pool [] [] history

-- ---- The submissions.

-- the submission that an event is, and when it comes
abbrev pub submitted_id : JdkEvent → Option Id
submitted_id (Submit id reply) = Some id
submitted_id _ = None

abbrev pub submitted_at : TimedJdkEvent → Option (Id × ℕ)
submitted_at timed = option_map (λ id. (id, timed.at)) (submitted_id timed.event)

-- the submissions of a history, and those of a load
abbrev pub submissions_at : List TimedJdkEvent → List (Id × ℕ)
submissions_at history = filter_map submitted_at history

abbrev pub submissions_of : List Arrival → List (Id × ℕ)
submissions_of arrivals = map (λ a. (a.id, a.at)) arrivals

-- the submission of a job when it comes, with the reply that the rule gives
abbrev pub submission : Sizes → List JdkEvent → Arrival → TimedJdkEvent
submission limits events a = record { event = Submit a.id (reply_after limits events); at = a.at }

-- ---- What is due.

-- the job that waits longest
abbrev pub front : List JdkEvent → Option Id
front events = slice_get (waiting events) 0

-- the take of a job at a time
abbrev pub take_at : Id → ℕ → TimedJdkEvent
take_at id at = record { event = Take id; at = at }

abbrev pub end_at : ℕ → TimedJdkEvent
end_at at = record { event = IdleEnd; at = at }

-- A worker that has just finished a job takes one that waits, at once.
abbrev pub own_takes : List TimedJdkEvent → List TimedJdkEvent
own_takes before = if just_finished (events_in before) then option_to_list (option_map (λ id. take_at id (last_at before)) (front (events_in before))) else []

-- each look and each end that is to come
abbrev pub looks_of : List Idle → List ℕ
looks_of idle = filter_map (λ worker. worker.look) idle

abbrev pub ends_of : List Idle → List ℕ
ends_of idle = filter_map (λ worker. worker.end) idle

-- A worker that was woken takes the job that waits longest when it looks.
abbrev pub looks_due : List TimedJdkEvent → List Idle → List TimedJdkEvent
looks_due before idle = option_map_or (λ id. map (take_at id) (looks_of idle)) (front (events_in before)) []

-- The next job of the load is submitted when it comes.
abbrev pub submissions_due : VirtualPool → List Arrival → List TimedJdkEvent → List TimedJdkEvent
submissions_due pool arrivals before = option_to_list (option_map (submission pool.limits (events_in before)) (slice_get arrivals (length (submissions_at before))))

-- An idle worker whose time comes takes a job if one waits; else it ends, if there are more workers than may stay.
abbrev pub ends_due : VirtualPool → List TimedJdkEvent → List Idle → List TimedJdkEvent
ends_due pool before idle =
    option_map_or (λ id. map (take_at id) (ends_of idle)) (front (events_in before)) (if has_spare pool (events_in before) then map end_at (ends_of idle) else [])

-- All that is due. If several things are due at one moment, they happen in this order.
abbrev pub all_due : VirtualPool → List Arrival → List TimedJdkEvent → List TimedJdkEvent
all_due pool arrivals before =
    own_takes before
    ++ finishes arrivals before
    ++ looks_due before (idle_after pool before)
    ++ submissions_due pool arrivals before
    ++ ends_due pool before (idle_after pool before)

abbrev pub next_due : VirtualPool → List Arrival → List TimedJdkEvent → Option TimedJdkEvent
next_due pool arrivals before = earliest (λ timed. timed.at) (all_due pool arrivals before)
