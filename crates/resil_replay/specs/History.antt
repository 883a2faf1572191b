-- The text of a history, in its two versions.
use Rattle.std.specs.Prelude.{ℕ, ◌≡◌, ◌<◌, ◌≤◌, ◌^◌, ◌∷◌, [], List, All, codes, map, take, decimal}
use Rattle.resil_rule.specs.declared.event.Id.{Id}
use Rattle.resil_rule.specs.declared.event.Reply.TheVariants.{Core, Queued, Extra, Full, Closed}
use Rattle.resil_rule.specs.declared.event.Event.{Event}
use Rattle.resil_rule.specs.declared.event.Event.TheVariants.{Submit, Take, Finish, IdleEnd, Close, Resized}
use Rattle.resil_replay.specs.declared.history.Version.{Version}
use Rattle.resil_replay.specs.declared.history.Version.TheVariants.{One, Two}
use Rattle.resil_input.specs.Answer.{reply_name}
use Rattle.resil_input.specs.CsvTable.{table_text}

-- the number of columns of a version, out of six: version 1 has the first four
abbrev pub columns_of : Version → ℕ
columns_of One = 4
columns_of Two = 6

-- the fields of the header of a version
abbrev pub history_header : Version → List (List ℕ)
history_header version = take (columns_of version) (codes "event" ∷ codes "caller" ∷ codes "number" ∷ codes "reply" ∷ codes "core" ∷ codes "max" ∷ [])

-- the six fields of an event that names a job
abbrev pub job_fields : List ℕ → Id → List ℕ → List (List ℕ)
job_fields name id reply = name ∷ decimal id.caller ∷ decimal id.number ∷ reply ∷ [] ∷ [] ∷ []

-- the six fields of an event
abbrev pub event_fields : Event → List (List ℕ)
event_fields (Submit id reply) = job_fields (codes "submit") id (reply_name reply)
event_fields (Take id) = job_fields (codes "take") id []
event_fields (Finish id) = job_fields (codes "finish") id []
event_fields IdleEnd = codes "idle" ∷ [] ∷ [] ∷ [] ∷ [] ∷ [] ∷ []
event_fields Close = codes "close" ∷ [] ∷ [] ∷ [] ∷ [] ∷ [] ∷ []
event_fields (Resized core max) = codes "resize" ∷ [] ∷ [] ∷ [] ∷ decimal core ∷ decimal max ∷ []

-- the fields of an event's record: those of the six for which the version has a column
abbrev pub record_fields : Version → Event → List (List ℕ)
record_fields version event = take (columns_of version) (event_fields event)

-- the header, then a record for each event, in order
abbrev pub history_text : Version → List Event → List ℕ
history_text version history = table_text (history_header version ∷ map (record_fields version) history)

-- a caller and a number from `least` on, as their types allow: below 2 ^ 16 and below 2 ^ 64
abbrev pub FitsId : ℕ → Id → Type 0
FitsId least id = ((least ≤ id.caller) × (id.caller < 2 ^ 16)) × ((least ≤ id.number) × (id.number < 2 ^ 64))

-- an event that a version can write, with callers and numbers from `least` on: its numbers fit their types, sizes are below 2
-- ^ 32, and version 1 has no resize
abbrev pub FitsEvent : ℕ → Version → Event → Type 0
FitsEvent least version (Submit id reply) = FitsId least id
FitsEvent least version (Take id) = FitsId least id
FitsEvent least version (Finish id) = FitsId least id
FitsEvent least version IdleEnd = Unit {0}
FitsEvent least version Close = Unit {0}
FitsEvent least One (Resized core max) = ⊥
FitsEvent least Two (Resized core max) = (core < 2 ^ 32) × (max < 2 ^ 32)

-- No two histories have the same text of a version.
abbrev pub HistoryTextInjective : Type 0
HistoryTextInjective = (version : Version) (one other : List Event) → All (FitsEvent 0 version) one → All (FitsEvent 0 version) other
    → history_text version one ≡ history_text version other → one ≡ other

-- an example: four submissions to a pool of core size 1, maximum size 2 and queue capacity 1
abbrev pub example_history : List Event
example_history = Submit (record { caller = 1; number = 1 }) Core ∷ Submit (record { caller = 1; number = 2 }) Queued
    ∷ Submit (record { caller = 1; number = 3 }) Extra ∷ Submit (record { caller = 1; number = 4 }) Full ∷ []

-- an example: a pool of core size 1, maximum size 2 and queue capacity 1 is resized to 2 and 2, and to 1 and 1
abbrev pub resized_history : List Event
resized_history = Submit (record { caller = 1; number = 1 }) Core ∷ Resized 2 2 ∷ Submit (record { caller = 1; number = 2 }) Core
    ∷ Resized 1 1 ∷ Submit (record { caller = 1; number = 3 }) Queued ∷ Submit (record { caller = 1; number = 4 }) Full ∷ []
