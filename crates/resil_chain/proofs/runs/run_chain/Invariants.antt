use Rattle.std.proofs.Common.{◌≡◌, ◌++◌}
use Rattle.std.specs.Vec.Iter.{into_iter_items}
use Rattle.resil_input.specs.CsvTable.{HasColumns, text_so_far}
use Rattle.resil_chain.specs.Runs.{IsTextOfRuns}
use Rattle.resil_chain.proofs.runs.run_chain.Given as goal

-- the text of a run for each row so far, and the rows that are left
abbrev pub invariant-loop-row : goal.invariant-loop-row
invariant-loop-row l = record {
  all : l.yielded ++ into_iter_items l.row-iterator ≡ into_iter_items l.initial.row-iterator;
  columns : HasColumns l.table 4;
  runs : IsTextOfRuns l.fn.chain l.yielded (text_so_far l.table);
}
