-- The runs of the rows of a `chain`, and their text.
use Rattle.std.specs.Prelude.{ℕ, ◌≡◌, ◌∷◌, [], List, codes, length, map}
use Rattle.resil_decor.specs.declared.layer.Layer.{Layer}
use Rattle.resil_decor.specs.Listed.{first_answers}
use Rattle.resil_decor.specs.Run.{IsValue, RunView}
use Rattle.resil_input.specs.CsvTable.{table_text}
use Rattle.resil_chain.specs.RunFields.{run_fields}
use Rattle.resil_chain.specs.Rows.{ChainRowView}

-- the fields of the header
abbrev pub chain_text_header : List (List ℕ)
chain_text_header = codes "outcome" ∷ codes "calls" ∷ codes "waits" ∷ codes "asked" ∷ []

-- the header, then a record for each run, in order
abbrev pub chain_text : List RunView → List ℕ
chain_text runs = table_text (chain_text_header ∷ map run_fields runs)

-- A run of a row: its plan is the layers around a function with the row's script, and it is a value of that plan. The
-- answers of its bulkheads, in the order of asking, are the first of the row's grants, whichever the bulkheads are; after
-- the last of these grants the answer is no.
pub record IsRunOf (layers : List Layer) (row : ChainRowView) (run : RunView) : Type 0 where
  pub plan : run.plan ≡ record { layers = layers; script = row.script }
  pub value : IsValue run
  pub grants : map (λ a. a.granted) run.asked ≡ first_answers (length run.asked) row.grants

-- a run for each row, in order
abbrev pub AreRunsOf : List Layer → List ChainRowView → List RunView → Type 0
AreRunsOf layers [] [] = Unit {0}
AreRunsOf layers (row ∷ rows) (run ∷ runs) = IsRunOf layers row run × AreRunsOf layers rows runs
AreRunsOf layers _ _ = ⊥

-- the text of runs of the rows, a run for each, in order
abbrev pub IsTextOfRuns : List Layer → List ChainRowView → List ℕ → Type 0
IsTextOfRuns layers rows text = (runs : List RunView) × AreRunsOf layers rows runs × (text ≡ chain_text runs)
