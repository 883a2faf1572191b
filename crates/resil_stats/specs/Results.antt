-- The results of a run after a history: the line that separates them, and their rows.
use Rattle.std.specs.Prelude.{ℕ, ◌-◌, ◌^◌, ◌==◌, ◌&&◌, ◌||◌, ◌∷◌, [], Bool, false, List, Option, Some, None, if◌then◌else◌, codes, length, option_and_then, slice_index, take}
use Rattle.std.specs.List.{concat, list_all, slice_split}
use Rattle.std.specs.Option.{is_some, option_map_or}
use Rattle.resil_input.specs.CsvRows.{IsBody, IsBodyError}
use Rattle.resil_input.specs.Framing.{lines_of, with_prefix}
use Rattle.resil_input.specs.Number.{parse_caller, parse_from_zero, parse_number}
use Rattle.resil_input.specs.OutcomeText.{parse_outcome}
use Rattle.resil_input.specs.TextEquality.{is_same}
use Rattle.resil_input.specs.declared.csv_rows.BodyError.{BodyError}
use Rattle.resil_stats.specs.declared.results.JobResult.{JobResult}
use Rattle.resil_input.specs.CsvTable.{results_header}

-- ---- The two parts of a body.

-- an empty line
abbrev pub is_empty_line : List ℕ → Bool
is_empty_line line = is_same line (codes "\n") || is_same line (codes "\r\n")

-- the line of the header of results, which may lack its line end
abbrev pub is_results_line : List ℕ → Bool
is_results_line line =
    is_same line (codes "caller,number,outcome,calls,waits,asked\n") || is_same line (codes "caller,number,outcome,calls,waits,asked\r\n")
    || is_same line (codes "caller,number,outcome,calls,waits,asked")

-- whether the first of some lines is the header of results
abbrev pub begins_results : List (List ℕ) → Bool
begins_results [] = false
begins_results (line ∷ lines) = is_results_line line

-- what is before the first empty line that the header of results follows, and what is after it, if there is one
unfoldable pub cut_at_results : List (List ℕ) → Option (List ℕ × List ℕ)
cut_at_results [] = None
cut_at_results (line ∷ lines) =
    if is_empty_line line && begins_results lines then Some ([], concat lines) else with_prefix line (cut_at_results lines)

-- the history and the results of a body that has results
abbrev pub results_of : List ℕ → Option (List ℕ × List ℕ)
results_of body = cut_at_results (lines_of body)

-- the history of a body: all of it if it has no results
abbrev pub history_part : List ℕ → List ℕ
history_part body = option_map_or (λ parts. parts.0) (results_of body) body

-- ---- The rows of results.

-- the items of a field, separated by semicolons (59); an empty field has none
abbrev pub are_items : (List ℕ → Bool) → List ℕ → Bool
are_items is_item field = (length field == 0) || list_all is_item (slice_split (λ byte. byte == 59) field)

-- a wait, in milliseconds
abbrev pub is_wait : List ℕ → Bool
is_wait item = is_some (parse_from_zero (2 ^ 64) item)

-- the id of a bulkhead, followed by `y` (121) or `n` (110)
abbrev pub is_answer : List ℕ → Bool
is_answer item =
    let end = length item - 1 in
    is_some (parse_from_zero (2 ^ 64) (take end item)) && ((slice_index item end == 121) || (slice_index item end == 110))

-- the result that six fields are read as: the job's id, its outcome, its calls, its waits, and the answers that it got
abbrev pub parse_result_fields : List ℕ → List ℕ → List ℕ → List ℕ → List ℕ → List ℕ → Option JobResult
parse_result_fields caller number outcome calls waits asked =
    option_and_then (λ c. option_and_then (λ n. option_and_then (λ o. option_and_then (λ k.
    if are_items is_wait waits && are_items is_answer asked then Some (record { id = record { caller = c; number = n }; outcome = o; calls = k }) else None)
    (parse_from_zero (2 ^ 64) calls)) (parse_outcome outcome)) (parse_number number)) (parse_caller caller)

-- the result that a record is read as
abbrev pub parse_result : List (List ℕ) → Option JobResult
parse_result (caller ∷ number ∷ outcome ∷ calls ∷ waits ∷ asked ∷ []) = parse_result_fields caller number outcome calls waits asked
parse_result _ = None

-- results of these rows
abbrev pub AreResults : List ℕ → List JobResult → Type 0
AreResults text rows = IsBody results_header parse_result text rows

-- why a text has no results
abbrev pub IsResultsError : List ℕ → BodyError → Type 0
IsResultsError text why = IsBodyError results_header parse_result text why
