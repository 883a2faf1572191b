-- What a body of version 4 is read as.
use Rattle.std.specs.Prelude.{ℕ, ◌∷◌, [], List, codes}
use Rattle.resil_input.specs.CsvRows.{IsBody, IsBodyError}
use Rattle.resil_input.specs.declared.csv_rows.BodyError.{BodyError}
use Rattle.resil_record.specs.Row.{parse_row}
use Rattle.resil_jdk.specs.declared.timed.TimedJdkEvent.{TimedJdkEvent}

-- the fields of the header
abbrev pub record_header : List (List ℕ)
record_header = codes "event" ∷ codes "caller" ∷ codes "number" ∷ codes "reply" ∷ codes "core" ∷ codes "max" ∷ codes "time_out" ∷ codes "at" ∷ []

-- a body of these events
abbrev pub IsRecordBody : List ℕ → List TimedJdkEvent → Type 0
IsRecordBody body history = IsBody record_header parse_row body history

-- why a body isn't a history in version 4
abbrev pub IsRecordBodyError : List ℕ → BodyError → Type 0
IsRecordBodyError body why = IsBodyError record_header parse_row body why
