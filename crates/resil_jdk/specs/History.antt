-- What a history says of a pool: filters over its events, and their lengths. There is no state here.
use Rattle.std.specs.Prelude.{ℕ, suc, ◌-◌, ◌==◌, not, Bool, true, false, List, ◌++◌, ◌∷◌, [], Option, Some, None, length, filter, if◌then◌else◌}
use Rattle.std.specs.List.{filter_map, list_any}
use Rattle.resil_rule.specs.Limits.{Sizes}
use Rattle.resil_rule.specs.History.{is_among, last_size}
use Rattle.resil_rule.specs.declared.event.Id.{Id}
use Rattle.resil_jdk.specs.declared.event.JdkReply.TheVariants.{Core, First, Queued, Handed, Extra}
use Rattle.resil_jdk.specs.declared.event.JdkEvent.{JdkEvent}
use Rattle.resil_jdk.specs.declared.event.JdkEvent.TheVariants.{Submit, Take, Finish, IdleEnd, Close, Resized, Start, Cull, Remove, Stop, TimeOut}

-- the job of a submission that a worker runs at once
abbrev pub run_id : JdkEvent → Option Id
run_id (Submit id Core) = Some id
run_id (Submit id Handed) = Some id
run_id (Submit id Extra) = Some id
run_id _ = None

-- the job of a submission that is put into the queue
abbrev pub queued_id : JdkEvent → Option Id
queued_id (Submit id First) = Some id
queued_id (Submit id Queued) = Some id
queued_id _ = None

-- the job of a submission that is accepted
abbrev pub accepted_id : JdkEvent → Option Id
accepted_id (Submit id Core) = Some id
accepted_id (Submit id First) = Some id
accepted_id (Submit id Queued) = Some id
accepted_id (Submit id Handed) = Some id
accepted_id (Submit id Extra) = Some id
accepted_id _ = None

-- the job of a take
abbrev pub taken_id : JdkEvent → Option Id
taken_id (Take id) = Some id
taken_id _ = None

-- the job of a removal
abbrev pub removed_id : JdkEvent → Option Id
removed_id (Remove id) = Some id
removed_id _ = None

-- the job that leaves the queue: it is taken or removed
abbrev pub left_id : JdkEvent → Option Id
left_id (Take id) = Some id
left_id (Remove id) = Some id
left_id _ = None

-- the job of a finish
abbrev pub finished_id : JdkEvent → Option Id
finished_id (Finish id) = Some id
finished_id _ = None

-- a worker begins: for a job, for the first job in the queue, or without a job
abbrev pub is_begin : JdkEvent → Bool
is_begin (Submit id Core) = true
is_begin (Submit id First) = true
is_begin (Submit id Extra) = true
is_begin Start = true
is_begin _ = false

-- a worker ends
abbrev pub is_end : JdkEvent → Bool
is_end IdleEnd = true
is_end Cull = true
is_end _ = false

-- the pool is closed; a stop closes it too
abbrev pub is_closing : JdkEvent → Bool
is_closing Close = true
is_closing Stop = true
is_closing _ = false

abbrev pub is_stop : JdkEvent → Bool
is_stop Stop = true
is_stop _ = false

abbrev pub is_submit_of : ℕ → JdkEvent → Bool
is_submit_of caller (Submit id reply) = id.caller == caller
is_submit_of caller _ = false

-- the core size that a resize sets
abbrev pub new_core : JdkEvent → Option ℕ
new_core (Resized core max) = Some core
new_core _ = None

-- the maximum size that a resize sets
abbrev pub new_max : JdkEvent → Option ℕ
new_max (Resized core max) = Some max
new_max _ = None

-- what is set for the core workers' time-out
abbrev pub new_time_out : JdkEvent → Option Bool
new_time_out (TimeOut on) = Some on
new_time_out _ = None

-- the jobs that a worker ran at once, the jobs that were queued, accepted, taken, removed, that left the queue, that were finished: each in order
abbrev pub run_at_once : List JdkEvent → List Id
run_at_once history = filter_map run_id history

abbrev pub queued : List JdkEvent → List Id
queued history = filter_map queued_id history

abbrev pub accepted : List JdkEvent → List Id
accepted history = filter_map accepted_id history

abbrev pub taken : List JdkEvent → List Id
taken history = filter_map taken_id history

abbrev pub removed : List JdkEvent → List Id
removed history = filter_map removed_id history

abbrev pub left : List JdkEvent → List Id
left history = filter_map left_id history

abbrev pub finished : List JdkEvent → List Id
finished history = filter_map finished_id history

-- those of some jobs that aren't among others
abbrev pub without : List Id → List Id → List Id
without gone ids = filter (λ id. not (is_among id gone)) ids

-- how many workers there are: as many as began, less those that ended
abbrev pub workers : List JdkEvent → ℕ
workers history = length (filter is_begin history) - length (filter is_end history)

-- the jobs in the queue: those queued, without those that left it
abbrev pub waiting : List JdkEvent → List Id
waiting history = without (left history) (queued history)

-- the jobs that workers run: those run at once and those taken, without those finished
abbrev pub running : List JdkEvent → List Id
running history = without (finished history) (run_at_once history ++ taken history)

-- whether the pool is closed: it was closed or stopped
abbrev pub is_closed : List JdkEvent → Bool
is_closed history = list_any is_closing history

-- whether the pool is stopped
abbrev pub is_stopped : List JdkEvent → Bool
is_stopped history = list_any is_stop history

-- the core size: that of the last resize, or that of the opening if there was none
abbrev pub core_size : Sizes → List JdkEvent → ℕ
core_size limits history = last_size limits.core (filter_map new_core history)

-- the maximum size: that of the last resize, or that of the opening if there was none
abbrev pub max_size : Sizes → List JdkEvent → ℕ
max_size limits history = last_size limits.max (filter_map new_max history)

-- the last of some settings, or another one if there are none
abbrev pub last_setting : Bool → List Bool → Bool
last_setting other [] = other
last_setting other (setting ∷ settings) = last_setting setting settings

-- whether core workers time out: as it was last set; at first they don't
abbrev pub times_out : List JdkEvent → Bool
times_out history = last_setting false (filter_map new_time_out history)

-- how many workers stay when nothing waits: as many as the core size, or none if core workers time out
abbrev pub kept_size : Sizes → List JdkEvent → ℕ
kept_size limits history = if times_out history then 0 else core_size limits history

-- the submissions of a caller, refused ones too
abbrev pub submissions : List JdkEvent → ℕ → List JdkEvent
submissions history caller = filter (is_submit_of caller) history

-- the number of a caller's next submission
abbrev pub next_number : List JdkEvent → ℕ → ℕ
next_number history caller = suc (length (submissions history caller))
