use Rattle.std.proofs.Common.{◌≡◌, ◌++◌, string_bytes}
use Rattle.resil_input.specs.CsvTable.{table_text}
use Rattle.resil_stats.specs.Text.{callers_records}
use Rattle.resil_stats.proofs.text.push_callers.Given as goal

-- the text so far, with the records of the callers that are left, is the whole text
abbrev pub invariant-loop-caller : goal.invariant-loop-caller
invariant-loop-caller l = string_bytes l.text ++ table_text (callers_records l.caller-iterator) ≡ string_bytes l.initial.text ++ table_text (callers_records l.callers.entries)
