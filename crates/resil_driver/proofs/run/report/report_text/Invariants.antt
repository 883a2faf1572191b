use Rattle.std.proofs.Common.{◌≡◌, ◌∷◌, ◌++◌, codes, map, take}
use Rattle.resil_replay.specs.declared.history.Version.TheVariants.{One}
use Rattle.resil_replay.specs.History.{history_text}
use Rattle.resil_driver.specs.Run.Report.{result_fields}
use Rattle.resil_input.specs.CsvTable.{HasColumns, results_header, table_text, text_so_far}
use Rattle.resil_driver.proofs.run.report.report_text.Given as goal

-- the history, the empty line, the header and the records of the results so far
abbrev pub invariant-loop-row : goal.invariant-loop-row
invariant-loop-row l = record {
  columns : HasColumns l.table 6;
  text : text_so_far l.table ≡ history_text One l.fn.history ++ codes "\n" ++ table_text (results_header ∷ map result_fields (take l.row-index l.results));
}
