use Rattle.std.proofs.Common.{◌≢◌, ◌<◌, length, map, append-nil}
use Rattle.std.proofs.lemmas.List.{length-map}
use Rattle.csv.specs.Writing.{writer_setup}
use Rattle.csv.specs.declared.writer.QuoteStyle.TheVariants as style
use Rattle.resil_input.proofs.TableLaws.{row_text-plain}
use Rattle.resil_input.proofs.csv_table.CsvTable.new.Goals as goal

pub returns-in-Ok-clause-text : goal.returns-in-Ok-clause-text
returns-in-Ok-clause-text c =
    let from = c.from_writer-writer.ensures in
    let necessary : (writer_setup c.from_writer-writer.result).style ≢ style.NonNumeric = rw from.cfg (λ e. cc e) in
    let bytes = c.in-Ok.ensures.bytes from.fields from.wrote necessary in
    let several : 1 < length (map (λ f. f.now) c.args.header.now) = rw (length-map c.args.header.now (λ f. f.now)) c.requires.several in
    let plain = row_text-plain (map (λ f. f.now) c.args.header.now) several c.requires.plain in
    rw (from.cfg, from.wtr, from.empty, append-nil c.args.text.items, plain) at bytes
