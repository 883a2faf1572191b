use Rattle.std.proofs.Common.{◌≡◌, ◌∷◌, map}
use Rattle.resil_input.specs.CsvTable.{HasColumns, table_text, text_so_far}
use Rattle.resil_weave.specs.Woven.{woven_text_header}
use Rattle.resil_weave.proofs.WovenLaws.{fields_of_pair, pair_of}
use Rattle.resil_weave.proofs.woven.woven_text.Given as goal

-- the header and the records of the steps so far
abbrev pub invariant-loop-step : goal.invariant-loop-step
invariant-loop-step l = record {
  columns : HasColumns l.table 3;
  text : text_so_far l.table ≡ table_text (woven_text_header ∷ map fields_of_pair (map pair_of l.yielded));
}
