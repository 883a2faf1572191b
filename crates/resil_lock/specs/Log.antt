-- The log of a pool: its history, and which jobs were picked and ended, with any payload.
use Rattle.std.specs.Prelude.{◌≤◌, List, Option, Some, None, filter_map}
use Rattle.resil_rule.specs.History.{times}
use Rattle.resil_rule.specs.declared.event.Id.{Id}
use Rattle.resil_rule.specs.declared.event.Event.{Event}
use Rattle.resil_rule.specs.declared.event.Event.TheVariants.{Take, Finish}
use Rattle.resil_lock.specs.declared.log.Logged.{Logged}
use Rattle.resil_lock.specs.declared.log.Note.{Note}
use Rattle.resil_lock.specs.declared.log.Note.TheVariants as note

-- the event that a turn noted
abbrev pub event_of : Note → Option Event
event_of (note.Event event) = Some event
event_of (note.Started id) = None

-- the job that was picked, either taken from the queue or with its own worker
abbrev pub picked_id : Note → Option Id
picked_id (note.Started id) = Some id
picked_id (note.Event (Take id)) = Some id
picked_id _ = None

-- the job that was ended
abbrev pub ended_id : Note → Option Id
ended_id (note.Event (Finish id)) = Some id
ended_id _ = None

module _ {P : Type 0} where
  -- the history; the jobs that were picked; and those that were ended: each list in order
  abbrev pub events_in : List (Logged P) → List Event
  events_in log = filter_map (λ entry. event_of entry.note) log

  abbrev pub picked_in : List (Logged P) → List Id
  picked_in log = filter_map (λ entry. picked_id entry.note) log

  abbrev pub ended_in : List (Logged P) → List Id
  ended_in log = filter_map (λ entry. ended_id entry.note) log

  -- no job was ended more often than it was picked
  abbrev pub IsBalanced : List (Logged P) → Type 0
  IsBalanced own = (id : Id) → times id (ended_in own) ≤ times id (picked_in own)
