use Rattle.std.proofs.Common.{◌≢◌, ◌<◌, length, map}
use Rattle.std.proofs.lemmas.List.{length-map}
use Rattle.csv.specs.Writing.{writer_setup}
use Rattle.csv.specs.declared.writer.QuoteStyle.TheVariants as style
use Rattle.resil_input.proofs.TableLaws.{row_text-plain}
use Rattle.resil_input.proofs.csv_table.CsvTable.push.Goals as goal
use Rattle.resil_input.proofs.csv_table.CsvTable.push.Goals.{in-Ok, in-Err}

pub returns-clause-text : goal.returns-clause-text
returns-clause-text c =
    elim c.match-write_fields.branch [
      | in-Ok w ↦
          let held = c.requires.columns in
          let necessary : (writer_setup c.args.self.now.writer).style ≢ style.NonNumeric = rw held.setup (λ e. cc e) in
          let bytes = w.in-Ok.ensures.bytes held.first_field held.nothing_shown necessary in
          let several : 1 < length (map (λ f. f.now) c.args.fields.now) = rw (length-map c.args.fields.now (λ f. f.now)) held.several in
          let plain = row_text-plain (map (λ f. f.now) c.args.fields.now) several c.requires.plain in
          rw w.result-is (rw (held.setup, plain) at bytes)
      | in-Err w ↦ rw w.result-is tt
    ]
