-- The runs of the rows of a `chain`.
use Rattle.std.proofs.Common.{◌≡◌, ◌∷◌, ◌++◌, ◌∙◌, ℕ, List, [], ap, map, sym}
use Rattle.std.proofs.lemmas.List.{map_push}
use Rattle.resil_decor.specs.declared.layer.Layer.{Layer}
use Rattle.resil_decor.specs.Run.{RunView}
use Rattle.resil_input.specs.CsvTable.{record_text, table_text}
use Rattle.resil_chain.specs.RunFields.{run_fields}
use Rattle.resil_input.proofs.TableLaws.{table_text-more}
use Rattle.resil_chain.specs.Runs.{AreRunsOf, IsRunOf, IsTextOfRuns, chain_text_header}
use Rattle.resil_chain.specs.Rows.{ChainRowView}

-- one more row, and its run
pub AreRunsOf-more : (layers : List Layer) (rows : List ChainRowView) (runs : List RunView) (row : ChainRowView) (run : RunView) → AreRunsOf layers rows runs → IsRunOf layers row run
    → AreRunsOf layers (rows ++ row ∷ []) (runs ++ run ∷ [])
AreRunsOf-more layers [] [] row run all is = (is, tt)
AreRunsOf-more layers (x ∷ xs) (r ∷ rs) row run all is = (all.0, AreRunsOf-more layers xs rs row run all.1 is)
AreRunsOf-more layers xs rs row run all is = absurd all

-- one more run, and its record
pub IsTextOfRuns-more : (layers : List Layer) (rows : List ChainRowView) (row : ChainRowView) (run : RunView) (before after : List ℕ) (fields : List (List ℕ)) → IsRunOf layers row run → fields ≡ run_fields run
    → after ≡ before ++ record_text fields → IsTextOfRuns layers rows before → IsTextOfRuns layers (rows ++ row ∷ []) after
IsTextOfRuns-more layers rows row run before after fields is same more (runs, all, text) =
    let record_more = ap (λ (records : List (List (List ℕ))). table_text (chain_text_header ∷ records)) (map_push run_fields runs run) ∙ table_text-more (chain_text_header ∷ map run_fields runs) (run_fields run) in
    (runs ++ run ∷ [], AreRunsOf-more layers rows runs row run all is, more ∙ rw (text, same) (sym record_more))
