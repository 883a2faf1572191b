-- The bodies of `simulate`: a load, which says when each job comes and how long it runs, or a history with times.
use Rattle.std.specs.Prelude.{ℕ, ◌≡◌, ◌⊎◌, ◌^◌, ◌∷◌, [], List, Option, codes, get_or, option_and_then, option_map, ⊤}
use Rattle.resil_input.specs.CsvRows.{IsBody, IsBodyError}
use Rattle.resil_input.specs.Number.{parse_from_zero}
use Rattle.resil_input.specs.declared.csv_rows.BodyError.{BodyError}
use Rattle.resil_input.specs.declared.csv_rows.BodyError.TheVariants as error
use Rattle.resil_replay.specs.Timed.{IsTimedBody, parse_timed, timed_header}
use Rattle.resil_record.specs.Body.{IsRecordBody, IsRecordBodyError}
use Rattle.resil_jdk.specs.declared.timed.TimedJdkEvent.{TimedJdkEvent}
use Rattle.resil_rule.specs.declared.timed.Timed.{Timed}
use Rattle.resil_simulate.specs.History.{in_whole_words}
use Rattle.resil_simulate.specs.declared.rows.LoadRow.{LoadRow}
use Rattle.resil_simulate.specs.declared.rows.Rows.{Rows}
use Rattle.resil_simulate.specs.declared.rows.Rows.TheVariants.{Load, History}

-- the fields of the header
abbrev pub load_header : List (List ℕ)
load_header = codes "at" ∷ codes "takes" ∷ []

-- the job that two fields are read as: a time below 2 ^ 64, and a run below 2 ^ 32
abbrev pub parse_fields : List ℕ → List ℕ → Option LoadRow
parse_fields at takes = option_and_then (λ t. option_map (λ run. record { at = t; takes = run }) (parse_from_zero (2 ^ 32) takes)) (parse_from_zero (2 ^ 64) at)

-- the job that a record is read as
abbrev pub parse_row : List (List ℕ) → Option LoadRow
parse_row fields = parse_fields (get_or fields 0 []) (get_or fields 1 [])

-- a body of these jobs, and why a body has none
abbrev pub IsLoadBody : List ℕ → List LoadRow → Type 0
IsLoadBody body rows = IsBody load_header parse_row body rows

abbrev pub IsLoadBodyError : List ℕ → BodyError → Type 0
IsLoadBodyError body why = IsBodyError load_header parse_row body why

-- a history of version 3, in the words of the whole rule, or of version 4
abbrev pub IsHistoryBody : List ℕ → List TimedJdkEvent → Type 0
IsHistoryBody body history = ((own : List Timed) × IsTimedBody body own × (history ≡ in_whole_words own)) ⊎ IsRecordBody body history

-- a body of these rows
abbrev pub AreRows : List ℕ → Rows → Type 0
AreRows body (Load rows) = IsLoadBody body rows.items
AreRows body (History history) = IsHistoryBody body history.items

-- why a body has neither rows nor a history: it is out of memory; its first record is no header of them; or a record after a header isn't a
-- row of it
abbrev pub IsBodyRefused : List ℕ → BodyError → Type 0
IsBodyRefused body error.Memory = ⊤
IsBodyRefused body error.BadHeader = IsLoadBodyError body error.BadHeader × IsBodyError timed_header parse_timed body error.BadHeader × IsRecordBodyError body error.BadHeader
IsBodyRefused body (error.BadRow position) =
    IsLoadBodyError body (error.BadRow position) ⊎ IsBodyError timed_header parse_timed body (error.BadRow position) ⊎ IsRecordBodyError body (error.BadRow position)
