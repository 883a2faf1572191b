-- Version 3 of the text of a history: a record for each event, with its time at the end, and what a body of any version is read as.
use Rattle.std.specs.Prelude.{ℕ, ◌≡◌, ◌<◌, ◌^◌, ◌++◌, ◌∷◌, ◌⊎◌, [], List, All, Option, Some, None, codes, get_or, map, option_and_then, option_map, ⊤, decimal}
use Rattle.resil_rule.specs.Timed.{events_in, times_in}
use Rattle.resil_rule.specs.declared.event.Event.{Event}
use Rattle.resil_rule.specs.declared.timed.Timed.{Timed}
use Rattle.resil_replay.specs.Events.{IsAuditBody, IsAuditBodyError, parse_event}
use Rattle.resil_replay.specs.History.{FitsEvent, event_fields}
use Rattle.resil_replay.specs.declared.history.Version.TheVariants.{Two}
use Rattle.resil_input.specs.CsvRows.{IsBody, IsBodyError}
use Rattle.resil_input.specs.CsvTable.{table_text}
use Rattle.resil_input.specs.Number.{parse_from_zero}
use Rattle.resil_input.specs.declared.csv_rows.BodyError.{BodyError}
use Rattle.resil_input.specs.declared.csv_rows.BodyError.TheVariants as error

-- ---- What is read.

-- the fields of the header
abbrev pub timed_header : List (List ℕ)
timed_header = codes "event" ∷ codes "caller" ∷ codes "number" ∷ codes "reply" ∷ codes "core" ∷ codes "max" ∷ codes "at" ∷ []

-- the event that a record is read as, as in version 2, and its time, from 0 to 2 ^ 64 - 1
abbrev pub parse_timed : List (List ℕ) → Option Timed
parse_timed fields = option_and_then (λ event. option_map (λ at. record { event = event; at = at }) (parse_from_zero (2 ^ 64) (get_or fields 6 []))) (parse_event fields)

-- a body of these events in version 3
abbrev pub IsTimedBody : List ℕ → List Timed → Type 0
IsTimedBody body history = IsBody timed_header parse_timed body history

-- what contracts see of a history: its events, and their times if it has them
pub record HistoryView : Type 0 where
  pub events : List Event
  pub times : Option (List ℕ)

-- a body of these events, and of their times if its version has them
abbrev pub IsHistoryBody : List ℕ → List Event → Option (List ℕ) → Type 0
IsHistoryBody body events None = IsAuditBody body events
IsHistoryBody body events (Some times) = (history : List Timed) × IsTimedBody body history × (events ≡ events_in history) × (times ≡ times_in history)

-- Why a body isn't a history in any of the three versions: out of memory; its first record is the header of none; or a record under
-- the header of one of them isn't a row.
abbrev pub IsHistoryBodyError : List ℕ → BodyError → Type 0
IsHistoryBodyError body error.Memory = ⊤
IsHistoryBodyError body error.BadHeader = IsAuditBodyError body error.BadHeader × IsBodyError timed_header parse_timed body error.BadHeader
IsHistoryBodyError body (error.BadRow position) = IsAuditBodyError body (error.BadRow position) ⊎ IsBodyError timed_header parse_timed body (error.BadRow position)

-- ---- What is written.

-- the seven fields of an event with its time
abbrev pub timed_fields : Timed → List (List ℕ)
timed_fields timed = event_fields timed.event ++ decimal timed.at ∷ []

-- the header, then a record for each event, in order
abbrev pub timed_text : List Timed → List ℕ
timed_text history = table_text (timed_header ∷ map timed_fields history)

-- an event of a history, with callers and numbers from 1 on, and a time below 2 ^ 64
abbrev pub FitsTimed : Timed → Type 0
FitsTimed timed = FitsEvent 1 Two timed.event × (timed.at < 2 ^ 64)

-- The text of a history with times is read as that history with those times, and as no other, nor as one without times.
abbrev pub TimedHistoriesRoundTrip : Type 0
TimedHistoriesRoundTrip = (history : List Timed) → All FitsTimed history
    → IsHistoryBody (timed_text history) (events_in history) (Some (times_in history))
    × ((events : List Event) (times : Option (List ℕ)) → IsHistoryBody (timed_text history) events times → (events ≡ events_in history) × (times ≡ Some (times_in history)))
