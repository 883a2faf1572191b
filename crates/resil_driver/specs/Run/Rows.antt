-- The body of a `run`: jobs, each with the caller that submits it and its script.
use Rattle.std.specs.Prelude.{ℕ, suc, ◌∷◌, [], List, Option, codes, get_or, option_map, option_and_then}
use Rattle.resil_input.specs.Number.{parse_number_below}
use Rattle.resil_input.specs.CsvRows.{IsBody, IsBodyError}
use Rattle.resil_input.specs.Script.{parse_script}
use Rattle.resil_driver.specs.declared.run.rows.ScriptedJob.{ScriptedJob}
use Rattle.resil_input.specs.declared.csv_rows.BodyError.{BodyError}

-- the fields of the header
abbrev pub run_rows_header : List (List ℕ)
run_rows_header = codes "caller" ∷ codes "script" ∷ []

-- the number of a caller, from 1 to `callers`, that a field is read as
abbrev pub parse_caller_up_to : ℕ → List ℕ → Option ℕ
parse_caller_up_to callers field = parse_number_below (suc callers) field

-- the job that a record is read as
abbrev pub parse_job : ℕ → List (List ℕ) → Option ScriptedJob
parse_job callers fields =
    option_and_then (λ c. option_map (λ outcomes. record { caller = c; script = outcomes }) (parse_script (get_or fields 1 []))) (parse_caller_up_to callers (get_or fields 0 []))

-- a body of these jobs, for a pool of this number of callers
abbrev pub IsRunBody : ℕ → List ℕ → List ScriptedJob → Type 0
IsRunBody callers body jobs = IsBody run_rows_header (parse_job callers) body jobs

-- why a body has no jobs
abbrev pub IsRunBodyError : ℕ → List ℕ → BodyError → Type 0
IsRunBodyError callers body why = IsBodyError run_rows_header (parse_job callers) body why
