-- The body of a `chain`: scripts, each with the answers of the bulkheads around its function.
use Rattle.std.specs.Prelude.{ℕ, ◌==◌, ◌∷◌, [], Bool, true, false, List, Option, Some, None, if◌then◌else◌, codes, get_or, map, option_map, option_and_then}
use Rattle.resil_retry.specs.declared.outcome.Outcome.{Outcome}
use Rattle.resil_input.specs.CsvRows.{IsBody, IsBodyError}
use Rattle.resil_input.specs.declared.csv_rows.BodyError.{BodyError}
use Rattle.resil_input.specs.Script.{all_some, parse_script}

-- the fields of the header
abbrev pub chain_rows_header : List (List ℕ)
chain_rows_header = codes "script" ∷ codes "grants" ∷ []

-- what contracts see of a row: a script, and the answers of the bulkheads around its function
pub record ChainRowView : Type 0 where
  pub script : List Outcome
  pub grants : List Bool

-- the answer that a byte is the letter of: `y` (121) grants a permit, `n` (110) doesn't
abbrev pub parse_grant : ℕ → Option Bool
parse_grant letter = if letter == 121 then Some true else if letter == 110 then Some false else None

-- the answers that any number of letters are read as
abbrev pub parse_grants : List ℕ → Option (List Bool)
parse_grants letters = all_some (map parse_grant letters)

-- the row that a record is read as
abbrev pub parse_chain_row : List (List ℕ) → Option ChainRowView
parse_chain_row fields =
    option_and_then (λ outcomes. option_map (λ answers. record { script = outcomes; grants = answers }) (parse_grants (get_or fields 1 []))) (parse_script (get_or fields 0 []))

-- a body of these rows
abbrev pub IsChainBody : List ℕ → List ChainRowView → Type 0
IsChainBody body rows = IsBody chain_rows_header parse_chain_row body rows

-- why a body has no rows
abbrev pub IsChainBodyError : List ℕ → BodyError → Type 0
IsChainBodyError body why = IsBodyError chain_rows_header parse_chain_row body why
