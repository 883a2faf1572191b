use Rattle.std.proofs.Common.{◌≡◌, ◌∷◌, ◌++◌, ◌∙◌, [], ℕ, List, Some, None, ap, append-nil, refl, rules, sym}
use Rattle.csv.specs.Records.{fields_of}
use Rattle.resil_input.specs.CsvRows.{row_under}
use Rattle.resil_input.specs.ReaderState.{header_of}
use Rattle.resil_input.proofs.RowLaws.{ParseAs-more, append-next, bad-row}
use Rattle.resil_input.proofs.csv_rows.OpenBody.rows.Goals as goal

pub rows-init : goal.rows-init
rows-init g c = ([], refl, c.requires.opened.1.inside, (λ parse answers. rw c.new-rows.ensures.items refl))

pub rows-preserved : goal.rows-preserved
rows-preserved g c =
    let (records, all, stands, spell) = c.rows.invariant in
    let fields = fields_of c.next_record.new.fields in
    let header = header_of c.args.self in
    let (behind, next, expected, width) = rw c.in-Record.is at (c.in_ok-next_record.ensures.comes stands.0) in
    let wide = sym (rw stands.1 at width) in (
      records ++ fields ∷ [],
      append-next _ fields records _ _ all next,
      (behind, expected ∙ ap Some wide),
      λ parse answers. (
          let told = rw c.in_ok-row-in-Record.was at (answers _ _ c.row_of.ensures wide) in
          let row : row_under header parse fields ≡ Some c.in-Some.row = let read = sym told ∙ c.in-Some.is in search rules in
          rw c.in_ok-push-in-Some.ensures.items (ParseAs-more header parse records c.rows.rows.items fields c.in-Some.row (spell parse answers) row)),
    )

pub returns-in-None : goal.returns-in-None
returns-in-None g c = λ body parse is answers.
    let (records, all, stands, spell) = c.rows.invariant in
    let (behind, next, expected, width) = rw c.in-Record.is at (c.in_ok-next_record.ensures.comes stands.0) in
    let told = answers _ _ c.row_of.ensures (sym (rw stands.1 at width)) in
    let none : row_under (header_of c.args.self) parse (fields_of c.next_record.new.fields) ≡ None = search rules in
    bad-row _ parse body records _ _ _ _ _ (is.first ∙ ap (λ (rest : List (List (List ℕ))). header_of c.args.self ∷ rest) all) next (spell parse answers) none (search rules)

pub returns-in-UnequalLength : goal.returns-in-UnequalLength
returns-in-UnequalLength g c = λ body parse is answers.
    let (records, all, stands, spell) = c.rows.invariant in
    let (bad, more, next, width, expected, other) = rw c.in-UnequalLength.is at (c.in_ok-next_record.ensures.comes stands.0) in
    let none : row_under (header_of c.args.self) parse bad ≡ None = search rules in
    bad-row _ parse body records _ more bad _ _ (is.first ∙ ap (λ (rest : List (List (List ℕ))). header_of c.args.self ∷ rest) all) next (spell parse answers) none (search rules)

pub returns-in-End : goal.returns-in-End
returns-in-End g c = λ body parse is answers.
    let (records, all, stands, spell) = c.rows.invariant in
    let none = rw c.in-End.is at (c.in_ok-next_record.ensures.comes stands.0) in
    (records, is.first ∙ ap (λ (rest : List (List (List ℕ))). header_of c.args.self ∷ rest) (rw none at all ∙ append-nil records), spell parse answers)
