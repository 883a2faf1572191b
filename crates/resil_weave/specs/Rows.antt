-- The body of a `weave`: the steps of callers, one after the other.
use Rattle.std.specs.Prelude.{ℕ, ◌≡◌, ◌<◌, ◌^◌, ◌∷◌, [], List, Option, Some, None, if◌then◌else◌, codes, get_or, option_map}
use Rattle.std.specs.Fmt.{decimal}
use Rattle.resil_permit.specs.declared.step.Step.{Step}
use Rattle.resil_permit.specs.declared.step.Step.TheVariants as step
use Rattle.resil_input.specs.Number.{parse_from_zero}
use Rattle.resil_input.specs.CsvRows.{IsBody, IsBodyError}
use Rattle.resil_input.specs.TextEquality.{is_same}
use Rattle.resil_input.specs.declared.csv_rows.BodyError.{BodyError}

-- the fields of the header
abbrev pub weave_rows_header : List (List ℕ)
weave_rows_header = codes "step" ∷ codes "caller" ∷ []

-- the number of a caller, from 0 to 65,535, that a field is read as
abbrev pub parse_step_caller : List ℕ → Option ℕ
parse_step_caller field = parse_from_zero (2 ^ 16) field

-- the step that two fields are read as
abbrev pub parse_step_fields : List ℕ → List ℕ → Option Step
parse_step_fields name caller =
    if is_same name (codes "load") then option_map step.Load (parse_step_caller caller)
    else if is_same name (codes "exchange") then option_map step.Exchange (parse_step_caller caller)
    else if is_same name (codes "add") then option_map step.Add (parse_step_caller caller)
    else if is_same name (codes "retire") then option_map step.Retire (parse_step_caller caller)
    else if is_same name (codes "raise") then option_map step.Raise (parse_step_caller caller)
    else None

-- the step that a record is read as
abbrev pub parse_step : List (List ℕ) → Option Step
parse_step fields = parse_step_fields (get_or fields 0 []) (get_or fields 1 [])

-- a body of these steps
abbrev pub IsWeaveBody : List ℕ → List Step → Type 0
IsWeaveBody body steps = IsBody weave_rows_header parse_step body steps

-- why a body has no steps
abbrev pub IsWeaveBodyError : List ℕ → BodyError → Type 0
IsWeaveBodyError body why = IsBodyError weave_rows_header parse_step body why

-- A caller is read from its decimal text.
abbrev pub CallersRoundTrip : Type 0
CallersRoundTrip = (c : ℕ) → c < 2 ^ 16 → parse_step_caller (decimal c) ≡ Some c

-- What is read as a caller is its decimal text, and the caller is from 0 to 65,535.
abbrev pub CallersAreDecimal : Type 0
CallersAreDecimal = (field : List ℕ) (c : ℕ) → parse_step_caller field ≡ Some c → (field ≡ decimal c) × (c < 2 ^ 16)
