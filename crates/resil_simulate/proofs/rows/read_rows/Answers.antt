use Rattle.resil_simulate.proofs.Words.{◌≡◌, ℕ, List, refl, rules, inl, BodyError, parse_timed, timed_header, IsBodyRefused, IsLoadBodyError, load_header, parse_row}
use Rattle.resil_record.specs.Body.{record_header}
use Rattle.resil_record.specs.Row as whole
use Rattle.resil_input.proofs.RowLaws.{handed-on, unopened}
use Rattle.resil_input.specs.CsvRows.{IsUnopened}
use Rattle.resil_input.specs.ReaderState.{IsOpened, header_of}
use Rattle.resil_input.specs.declared.csv_rows.BodyError.TheVariants as error
use Rattle.resil_input.specs.declared.csv_rows.OpenBody.{OpenBody}
use Rattle.resil_simulate.proofs.rows.read_rows.Goals as goal

headless : (body : List ℕ) (why : BodyError) → IsUnopened body why → IsBodyRefused body why
headless body error.Memory none = tt
headless body error.BadHeader none = (unopened load_header parse_row body error.BadHeader none, unopened timed_header parse_timed body error.BadHeader none, unopened record_header whole.parse_row body error.BadHeader none)
headless body (error.BadRow position) none = absurd none

load-refused : (body : List ℕ) (opened : OpenBody) → IsOpened body opened → header_of opened ≡ load_header → (why : BodyError) → IsLoadBodyError body why → IsBodyRefused body why
load-refused body opened is same error.Memory refused = tt
load-refused body opened is same error.BadHeader refused = absurd (refused (rw (is.first, same) refl))
load-refused body opened is same (error.BadRow position) refused = inl refused

pub returns-in_err-opened : goal.returns-in_err-opened
returns-in_err-opened c =
    handed-on c.from_residual.result _ (IsBodyRefused c.args.body.now) _ c.from_residual.ensures.1 (headless c.args.body.now c.in_err-opened.field-0.0 c.in_err-opened.ensures.refused)

pub returns-in_err-rows : goal.returns-in_err-rows
returns-in_err-rows c =
    let is = c.in_ok-opened.ensures.opened in
    let same : header_of c.in_ok-opened.opened ≡ load_header = c.has_header.ensures.0 (rw c.if-has_header.true refl) in
    let read = rw same at (c.in_err-rows.ensures c.args.body.now parse_row is (λ fields answer called wide. search rules)) in
    handed-on c.from_residual-in_err-rows.result _ (IsBodyRefused c.args.body.now) _ c.from_residual-in_err-rows.ensures.1 (load-refused c.args.body.now c.in_ok-opened.opened is same c.in_err-rows.field-0.0 read)

pub returns-then-has_header : goal.returns-then-has_header
returns-then-has_header c =
    let same : header_of c.in_ok-opened.opened ≡ load_header = c.has_header.ensures.0 (rw c.if-has_header.true refl) in
    rw same at (c.in_ok-rows.ensures c.args.body.now parse_row c.in_ok-opened.ensures.opened (λ fields answer called wide. search rules))
