use Rattle.std.proofs.Common.{◌∙◌, inl, inr, sym}
use Rattle.resil_input.proofs.ReaderLaws.{stands-start}
use Rattle.resil_input.proofs.csv_rows.open_body.Goals as goal

pub returns-in-Record-clause-opened : goal.returns-in-Record-clause-opened
returns-in-Record-clause-opened c =
    let fr = c.from_reader-reader.ensures in
    let e = c.has_headers.ensures in
    let start = stands-start c.from_reader-reader.result c.args.body.now (rw e at fr.trim ∙ c.new.ensures.trim) (inr (inr (rw e at fr.has_headers, fr.headers)))
    (rw e at fr.config ∙ c.new.ensures.config) (rw e at fr.flexible ∙ c.new.ensures.flexible) fr.state fr.source in
    let (behind, next, expected, width) = rw c.in-Record.is at (c.in_ok-next_record.ensures.comes start.0) in
    record { first = sym start.1 ∙ next; inside = (behind, expected) }

pub returns-clause-refused : goal.returns-clause-refused
returns-clause-refused c =
    let fr = c.from_reader-reader.ensures in
    let e = c.has_headers.ensures in
    let start = stands-start c.from_reader-reader.result c.args.body.now (rw e at fr.trim ∙ c.new.ensures.trim) (inr (inr (rw e at fr.has_headers, fr.headers)))
    (rw e at fr.config ∙ c.new.ensures.config) (rw e at fr.flexible ∙ c.new.ensures.flexible) fr.state fr.source in
    let comes = c.in_ok-next_record.ensures.comes start.0 in
    elim c.in-UnequalLength.is [
      | inl unequal ↦ (let (bad, rest, next, width, expected, other) = rw unequal at comes in absurd (cc (fr.expected, expected)))
      | inr end ↦ sym start.1 ∙ rw end at comes
    ]
