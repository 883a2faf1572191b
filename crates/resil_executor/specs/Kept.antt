-- What the state has besides the rule: the record of the history, the room that it has, and how many jobs were accepted.
use Rattle.std.specs.Prelude.{ℕ, ◌≡◌, ◌+◌, ◌++◌, ◌∷◌, [], List, Option, Some, None, filter_map, length}
use Rattle.resil_executor.specs.Words.{accepted, finished, submissions, RuleView, busy, owed, Id, Full, Closed, Event, Submit}
use Rattle.resil_lock.specs.declared.log.Note.TheVariants as note
use Rattle.resil_executor.specs.Log.{Entry, Note, events_in}

-- the job of a submission that is refused
abbrev pub refused_id : Event → Option Id
refused_id (Submit id Full) = Some id
refused_id (Submit id Closed) = Some id
refused_id _ = None

-- the submissions of a history that were refused, in order
abbrev pub refused : List Event → List Id
refused history = filter_map refused_id history

-- what a turn adds to the history: the event that it noted, if it noted one
abbrev pub events_of : Option Note → List Event
events_of None = []
events_of (Some (note.Started id)) = []
events_of (Some (note.Event event)) = event ∷ []

-- a submission is the pool's own: its caller is 1
abbrev pub IsOwn : Option Note → Type 0
IsOwn (Some (note.Event (Submit id reply))) = id.caller ≡ 1
IsOwn _ = Unit {0}

-- some record hasn't enough room for some events
abbrev pub LacksRoom : {H : Type 0} → (ℕ → H → Type 0) → Type 0
LacksRoom {H = H} HasRoom = (events : ℕ) × (r : H) × (HasRoom events r → ⊥)

module _ {W : Type 0} where
  -- how many jobs the rule has that aren't finished
  abbrev pub unfinished : RuleView W → ℕ
  unfinished v = length v.waiting + busy v

module _ {W H : Type 0} (IsRecordOf : List Event → H → Type 0) (HasRoom : ℕ → H → Type 0) where
  -- The record is the one of the log's history, with room for what is owed. The count is the number of accepted jobs, each of which waits, runs or
  -- is finished. The pool's own submissions were accepted or refused.
  pub record KeepsUp (log : List (Entry W)) (v : RuleView W) (count : ℕ) (r : H) : Type 0 where
    pub recorded : IsRecordOf (events_in log) r
    pub room : HasRoom (owed v) r
    pub counted : count ≡ length (accepted (events_in log))
    pub jobs : unfinished v + length (finished (events_in log)) ≡ count
    pub answered : length (submissions (events_in log) 1) ≡ length (accepted (events_in log)) + length (refused (events_in log))

  -- What a turn did to the record and the count, for any history.
  pub record Keeps (before : RuleView W) (old_count : ℕ) (old : H) (after : RuleView W) (last : Option Note) (new_count : ℕ) (new : H) : Type 0 where
    pub recorded : (history : List Event) → IsRecordOf history old → IsRecordOf (history ++ events_of last) new
    pub room : HasRoom (owed after) new
    pub counted : new_count ≡ old_count + length (accepted (events_of last))
    pub jobs : unfinished after + length (finished (events_of last)) ≡ unfinished before + length (accepted (events_of last))
    pub own : IsOwn last
