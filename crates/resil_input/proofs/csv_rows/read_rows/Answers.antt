use Rattle.std.proofs.Common.{◌≡◌, map, refl}
use Rattle.resil_input.specs.ReaderState.{header_of}
use Rattle.resil_input.proofs.RowLaws.{handed-on, unopened}
use Rattle.resil_input.proofs.csv_rows.read_rows.Goals as goal

pub rows-requires-clause-opened : goal.rows-requires-clause-opened
rows-requires-clause-opened g c = (c.args.body.now, c.in_ok-opened.ensures.opened)

pub returns-in_err-opened : goal.returns-in_err-opened
returns-in_err-opened g c = λ parse answers.
    handed-on c.from_residual.result _ _ c.in_err-opened.field-0.0 c.from_residual.ensures.1 (unopened _ parse c.args.body.now c.in_err-opened.field-0.0 c.in_err-opened.ensures.refused)

pub returns-then-not-has_header : goal.returns-then-not-has_header
returns-then-not-has_header g c = λ parse answers same.
    let names : header_of c.in_ok-opened.opened ≡ map (λ name. name.now) c.args.header.now = cc (rw c.in_ok-opened.ensures.opened.first at same) in
    cc (c.has_header.ensures.1 names, c.if-not-has_header.true)

pub returns : goal.returns
returns g c = λ parse answers.
    let names = c.has_header.ensures.0 (rw c.if-not-has_header.false refl) in
    rw names at (c.rows.ensures c.args.body.now parse c.in_ok-opened.ensures.opened (rw names answers))
