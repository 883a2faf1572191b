-- The body of a `replay`: what is done to a pool, one row after the other.
use Rattle.std.specs.Prelude.{ℕ, ◌&&◌, ◌||◌, ◌==◌, not, ◌∷◌, [], List, Option, Some, None, if◌then◌else◌, codes, get_or, length, option_map}
use Rattle.resil_input.specs.CsvRows.{IsBody}
use Rattle.resil_input.specs.TextEquality.{is_same}
use Rattle.resil_replay.specs.declared.rows.ReplayRow.{ReplayRow}
use Rattle.resil_replay.specs.declared.rows.ReplayRow.TheVariants as row
use Rattle.resil_input.specs.declared.csv_rows.BodyError.{BodyError}
use Rattle.resil_replay.specs.declared.history.Version.{Version}
use Rattle.resil_replay.specs.declared.history.Version.TheVariants.{One, Two}
use Rattle.resil_replay.specs.Id.{parse_id}
use Rattle.resil_replay.specs.Sizes.{parse_sizes}
use Rattle.resil_replay.specs.Versions.{IsVersionsError}

-- the fields of the header, short and long
abbrev pub replay_rows_header : Version → List (List ℕ)
replay_rows_header One = codes "event" ∷ codes "caller" ∷ codes "number" ∷ []
replay_rows_header Two = codes "event" ∷ codes "caller" ∷ codes "number" ∷ codes "core" ∷ codes "max" ∷ []

-- the row without sizes that three fields are read as; if it names no job, the fields of the job are empty
abbrev pub parse_unsized_row : List ℕ → List ℕ → List ℕ → Option ReplayRow
parse_unsized_row event caller number =
    if is_same event (codes "submit") then option_map row.Submit (parse_id caller number)
    else if is_same event (codes "finish") then option_map row.Finish (parse_id caller number)
    else if not (length caller == 0) || not (length number == 0) then None
    else if is_same event (codes "take") then Some row.Take
    else if is_same event (codes "idle") then Some row.Idle
    else if is_same event (codes "close") then Some row.Close
    else None

-- the row that five fields are read as
abbrev pub parse_row_fields : List ℕ → List ℕ → List ℕ → List ℕ → List ℕ → Option ReplayRow
parse_row_fields event caller number core max =
    if is_same event (codes "resize") && (length caller == 0) && (length number == 0) then option_map (λ sizes. row.Resize sizes.0 sizes.1) (parse_sizes core max)
    else if (length core == 0) && (length max == 0) then parse_unsized_row event caller number
    else None

-- the row that a record is read as; under the short header the sizes are empty
abbrev pub parse_replay_row : List (List ℕ) → Option ReplayRow
parse_replay_row fields = parse_row_fields (get_or fields 0 []) (get_or fields 1 []) (get_or fields 2 []) (get_or fields 3 []) (get_or fields 4 [])

-- a body of these rows, with a history in this version: version 2 if the header is the long one
abbrev pub IsReplayBody : List ℕ → Version → List ReplayRow → Type 0
IsReplayBody body version rows = IsBody (replay_rows_header version) parse_replay_row body rows

-- why a body has no rows
abbrev pub IsReplayBodyError : List ℕ → BodyError → Type 0
IsReplayBodyError body why = IsVersionsError replay_rows_header parse_replay_row body why
