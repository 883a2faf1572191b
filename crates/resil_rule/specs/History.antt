-- What a history says about a pool: filters over its events, and their lengths. There is no state here.
use Rattle.std.specs.Prelude.{ℕ, suc, ◌-◌, ◌==◌, ◌&&◌, not, Bool, true, false, List, ◌++◌, ◌∷◌, [], Option, Some, None, length, filter, drop}
use Rattle.std.specs.List.{filter_map, list_any}
use Rattle.resil_rule.specs.Limits.{Sizes}
use Rattle.resil_rule.specs.declared.event.Id.{Id}
use Rattle.resil_rule.specs.declared.event.Reply.TheVariants.{Core, Queued, Extra}
use Rattle.resil_rule.specs.declared.event.Event.{Event}
use Rattle.resil_rule.specs.declared.event.Event.TheVariants.{Submit, Take, Finish, IdleEnd, Close, Resized}

-- whether two ids name the same submission
abbrev pub is_same_id : Id → Id → Bool
is_same_id a b = (a.caller == b.caller) && (a.number == b.number)

-- whether an id is in a list of ids
abbrev pub is_among : Id → List Id → Bool
is_among id ids = list_any (is_same_id id) ids

-- how many times an id is in a list of ids
abbrev pub times : Id → List Id → ℕ
times id ids = length (filter (is_same_id id) ids)

-- the job of a submission for which a worker is started
abbrev pub started_id : Event → Option Id
started_id (Submit id Core) = Some id
started_id (Submit id Extra) = Some id
started_id _ = None

-- the job of a submission that goes into the queue
abbrev pub queued_id : Event → Option Id
queued_id (Submit id Queued) = Some id
queued_id _ = None

-- the job of a submission that is accepted
abbrev pub accepted_id : Event → Option Id
accepted_id (Submit id Core) = Some id
accepted_id (Submit id Queued) = Some id
accepted_id (Submit id Extra) = Some id
accepted_id _ = None

-- the job of a take
abbrev pub taken_id : Event → Option Id
taken_id (Take id) = Some id
taken_id _ = None

-- the job of a finish
abbrev pub finished_id : Event → Option Id
finished_id (Finish id) = Some id
finished_id _ = None

abbrev pub is_idle_end : Event → Bool
is_idle_end IdleEnd = true
is_idle_end _ = false

abbrev pub is_close : Event → Bool
is_close Close = true
is_close _ = false

abbrev pub is_submit_of : ℕ → Event → Bool
is_submit_of caller (Submit id reply) = id.caller == caller
is_submit_of caller _ = false

-- the core size that a resize sets
abbrev pub new_core : Event → Option ℕ
new_core (Resized core max) = Some core
new_core _ = None

-- the maximum size that a resize sets
abbrev pub new_max : Event → Option ℕ
new_max (Resized core max) = Some max
new_max _ = None

-- the jobs for which a worker was started, and those that were queued, taken, finished, accepted: each list in order
abbrev pub started : List Event → List Id
started history = filter_map started_id history

abbrev pub queued : List Event → List Id
queued history = filter_map queued_id history

abbrev pub taken : List Event → List Id
taken history = filter_map taken_id history

abbrev pub finished : List Event → List Id
finished history = filter_map finished_id history

abbrev pub accepted : List Event → List Id
accepted history = filter_map accepted_id history

-- the jobs of a list that aren't finished
abbrev pub unfinished : List Event → List Id → List Id
unfinished history ids = filter (λ id. not (is_among id (finished history))) ids

-- how many workers there are: as many as were started, without those that ended
abbrev pub workers : List Event → ℕ
workers history = length (started history) - length (filter is_idle_end history)

-- the jobs in the queue: those that were queued, without the oldest ones, which were taken
abbrev pub waiting : List Event → List Id
waiting history = drop (length (taken history)) (queued history)

-- the jobs that workers run: those with their own worker and those that were taken, without those that are finished
abbrev pub running : List Event → List Id
running history = unfinished history (started history ++ taken history)

-- whether the pool is closed, that is, whether the history has a closing
abbrev pub is_closed : List Event → Bool
is_closed history = list_any is_close history

-- the last size of a list, or the given one if the list is empty
abbrev pub last_size : ℕ → List ℕ → ℕ
last_size other [] = other
last_size other (size ∷ sizes) = last_size size sizes

-- the core size: the one that the last resize set, or the one at the opening if there was no resize
abbrev pub core_size : Sizes → List Event → ℕ
core_size limits history = last_size limits.core (filter_map new_core history)

-- the maximum size: the one that the last resize set, or the one at the opening if there was no resize
abbrev pub max_size : Sizes → List Event → ℕ
max_size limits history = last_size limits.max (filter_map new_max history)

-- the submissions of a caller, refused ones too
abbrev pub submissions : List Event → ℕ → List Event
submissions history caller = filter (is_submit_of caller) history

-- the number of a caller's next submission
abbrev pub next_number : List Event → ℕ → ℕ
next_number history caller = suc (length (submissions history caller))
