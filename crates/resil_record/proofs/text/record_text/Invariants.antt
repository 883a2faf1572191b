use Rattle.std.proofs.Common.{◌≡◌, ◌∷◌, map, take}
use Rattle.resil_input.specs.CsvTable.{HasColumns, table_text, text_so_far}
use Rattle.resil_record.specs.Body.{record_header}
use Rattle.resil_record.specs.Text.{row_fields}
use Rattle.resil_record.proofs.text.record_text.Given as goal

abbrev pub invariant-loop-timed : goal.invariant-loop-timed
invariant-loop-timed l = record {
  columns : HasColumns l.table 8;
  text : text_so_far l.table ≡ table_text (record_header ∷ map row_fields (take l.timed-index l.history));
}
