use Rattle.std.proofs.Common.{◌∙◌, sym}
use Rattle.csv.specs.Records.{fields_of}
use Rattle.resil_input.proofs.ReaderLaws.{gives-record, gives-end, gives-unequal_length}
use Rattle.resil_input.proofs.csv_rows.next_record.Goals as goal

pub returns-in-Ok-true-clause-comes : goal.returns-in-Ok-true-clause-comes
returns-in-Ok-true-clause-comes c h =
    let read = rw c.in-Ok-true.field-0-test at (c.in-Ok-true.ensures.reads h.plain h.ready) in
    let on = c.in-Ok-true.ensures.reads_on c.in-Ok-true.field-0-test in
    gives-record c.args.reader.now c.read_byte_record.new.self _ h read on

pub returns-in-Ok-false-clause-comes : goal.returns-in-Ok-false-clause-comes
returns-in-Ok-false-clause-comes c h =
    let read = rw c.in-Ok-false.field-0-test at (c.in-Ok-false.ensures.reads h.plain h.ready) in
    gives-end c.args.reader.now c.read_byte_record.new.self _ h read

pub returns-in-UnequalLengths-clause-comes : goal.returns-in-UnequalLengths-clause-comes
returns-in-UnequalLengths-clause-comes c h =
    let kind = sym c.kind.ensures ∙ c.in-UnequalLengths.is in
    let why = rw kind at (c.in-Err.ensures.why h.ready) in
    let (flexible, expected, other, bad, took, width) = why in
    gives-unequal_length c.args.reader.now c.read_byte_record.new.self (fields_of c.read_byte_record.new.row) bad _ _ h expected other took width
