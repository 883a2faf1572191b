-- The text of a history in version 4.
use Rattle.std.specs.Prelude.{ℕ, ◌≡◌, ◌<◌, ◌≤◌, ◌^◌, ◌∷◌, [], Bool, List, All, codes, map}
use Rattle.std.specs.Fmt.{decimal}
use Rattle.resil_rule.specs.declared.event.Id.{Id}
use Rattle.resil_jdk.specs.declared.event.JdkEvent.{JdkEvent}
use Rattle.resil_jdk.specs.declared.event.JdkEvent.TheVariants.{Submit, Take, Finish, IdleEnd, Close, Resized, Start, Cull, Remove, Stop, TimeOut}
use Rattle.resil_input.specs.CsvTable.{table_text}
use Rattle.resil_record.specs.Body.{IsRecordBody, record_header}
use Rattle.resil_record.specs.Row.{reply_name, switch_name}
use Rattle.resil_jdk.specs.declared.timed.TimedJdkEvent.{TimedJdkEvent}

-- the fields of an event that names a job, and the time
abbrev pub job_fields : List ℕ → Id → List ℕ → List ℕ → List (List ℕ)
job_fields name id reply at = name ∷ decimal id.caller ∷ decimal id.number ∷ reply ∷ [] ∷ [] ∷ [] ∷ at ∷ []

-- the fields of an event that has only its name, and the time
abbrev pub lone_fields : List ℕ → List ℕ → List (List ℕ)
lone_fields name at = name ∷ [] ∷ [] ∷ [] ∷ [] ∷ [] ∷ [] ∷ at ∷ []

-- the fields of a resize, and of a time-out that is set, and the time
abbrev pub size_fields : ℕ → ℕ → List ℕ → List (List ℕ)
size_fields core max at = codes "resize" ∷ [] ∷ [] ∷ [] ∷ decimal core ∷ decimal max ∷ [] ∷ at ∷ []

abbrev pub switch_fields : Bool → List ℕ → List (List ℕ)
switch_fields on at = codes "time_out" ∷ [] ∷ [] ∷ [] ∷ [] ∷ [] ∷ switch_name on ∷ at ∷ []

-- the eight fields of an event and a time
abbrev pub event_fields : JdkEvent → List ℕ → List (List ℕ)
event_fields (Submit id reply) at = job_fields (codes "submit") id (reply_name reply) at
event_fields (Take id) at = job_fields (codes "take") id [] at
event_fields (Finish id) at = job_fields (codes "finish") id [] at
event_fields (Remove id) at = job_fields (codes "remove") id [] at
event_fields (Resized core max) at = size_fields core max at
event_fields (TimeOut on) at = switch_fields on at
event_fields IdleEnd at = lone_fields (codes "idle") at
event_fields Close at = lone_fields (codes "close") at
event_fields Start at = lone_fields (codes "start") at
event_fields Cull at = lone_fields (codes "cull") at
event_fields Stop at = lone_fields (codes "stop") at

abbrev pub row_fields : TimedJdkEvent → List (List ℕ)
row_fields timed = event_fields timed.event (decimal timed.at)

-- the header, then a record for each event, in order
abbrev pub record_text : List TimedJdkEvent → List ℕ
record_text history = table_text (record_header ∷ map row_fields history)

-- a caller from 1 to 65,535, and a number from 1 to 2 ^ 64 - 1
abbrev pub FitsId : Id → Type 0
FitsId id = ((1 ≤ id.caller) × (id.caller < 2 ^ 16)) × ((1 ≤ id.number) × (id.number < 2 ^ 64))

-- the numbers of an event are in the ranges of a row
abbrev pub FitsEvent : JdkEvent → Type 0
FitsEvent (Submit id reply) = FitsId id
FitsEvent (Take id) = FitsId id
FitsEvent (Finish id) = FitsId id
FitsEvent (Remove id) = FitsId id
FitsEvent (Resized core max) = (core < 2 ^ 32) × (max < 2 ^ 32)
FitsEvent _ = Unit {0}

abbrev pub FitsRow : TimedJdkEvent → Type 0
FitsRow timed = FitsEvent timed.event × (timed.at < 2 ^ 64)

-- The text of a history is read as that history, and as no other.
abbrev pub RecordsRoundTrip : Type 0
RecordsRoundTrip = (history : List TimedJdkEvent) → All FitsRow history
    → IsRecordBody (record_text history) history × ((other : List TimedJdkEvent) → IsRecordBody (record_text history) other → other ≡ history)
