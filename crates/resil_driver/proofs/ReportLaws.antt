-- The records of results, after the text of a history.
use Rattle.std.proofs.Common.{◌≡◌, ◌<◌, ◌+◌, ◌∷◌, ◌++◌, ◌∙◌, ℕ, List, [], length, map, take, get_or, sym, ap, append_assoc, Bor}
use Rattle.std.proofs.lemmas.List.{map_more}
use Rattle.resil_admission.specs.declared.row.Row.{Row}
use Rattle.resil_decor.specs.Run.{RunView}
use Rattle.resil_chain.specs.RunFields.{run_fields}
use Rattle.resil_driver.specs.Run.Report.{result_fields}
use Rattle.resil_input.specs.CsvTable.{record_text, results_header, table_text}
use Rattle.resil_input.proofs.TableLaws.{table_text-more}

-- the text so far, with one more result
pub report-more : (front : List ℕ) (results : List Row) (i : ℕ) (row : Row) → i < length results → row ≡ get_or results i row
    → (front ++ table_text (results_header ∷ map result_fields (take i results))) ++ record_text (result_fields row)
    ≡ front ++ table_text (results_header ∷ map result_fields (take (i + 1) results))
report-more front results i row within is =
    let records = map result_fields (take i results) in
    let more : map result_fields (take (i + 1) results) ≡ records ++ result_fields row ∷ [] = rw is (map_more result_fields results i row within) in
    append_assoc front (table_text (results_header ∷ records)) (record_text (result_fields row))
    ∙ ap (λ (t : List ℕ). front ++ t) (sym (table_text-more (results_header ∷ records) (result_fields row)) ∙ ap (λ (rs : List (List (List ℕ))). table_text (results_header ∷ rs)) (sym more))

-- the four texts of a run, one by one
pub texts-of_run : (texts : List (Bor (List ℕ))) (d : Bor (List ℕ)) (run : RunView) → map (λ text. text.now) texts ≡ run_fields run
    → (get_or texts 0 d).now ∷ (get_or texts 1 d).now ∷ (get_or texts 2 d).now ∷ (get_or texts 3 d).now ∷ [] ≡ run_fields run
texts-of_run (one ∷ two ∷ three ∷ four ∷ []) d run e = e
texts-of_run texts d run e = cc e
