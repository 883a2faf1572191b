use Rattle.std.proofs.Common.{◌≡◌, ◌++◌, ℕ, List, Option, length}
use Rattle.resil_input.specs.CsvRows.{AnswersRows, ParseAs}
use Rattle.resil_input.specs.ReaderState.{IsInBody, header_of, records_left}
use Rattle.resil_input.proofs.csv_rows.OpenBody.rows.Given as goal

-- the records of the rows so far and those left are all records after the header
abbrev pub invariant-rows : goal.invariant-rows
invariant-rows g l =
    let header = header_of l.fn.self in
    (records : List (List (List ℕ))) × (records_left l.fn.self.reader ≡ records ++ records_left l.reader) × IsInBody header l.reader
    × ((parse : List (List ℕ) → Option _) → AnswersRows (goal.F-post g l.row_of) header parse → ParseAs header parse records l.rows.items)

abbrev pub decreases-rows : goal.decreases-rows
decreases-rows g l = length (records_left l.reader)
