use lib.Pointwise.{bytes_decides}
use Rattle.std.proofs.Common.{◌<◌, ◌∙◌, [], ℕ, List, ap, get_or, length, map, sym, arith}
use Rattle.std.proofs.lemmas.List.{get_or-map, length-map, take_more_same}
use Rattle.csv.specs.Records.{fields_of}
use Rattle.resil_input.proofs.csv_rows.has_fields.Goals as goal

pub returns-then-not-is_text : goal.returns-then-not-is_text
returns-then-not-is_text c =
    let i = c.loop-index.index in
    let name = get_or-map (λ name. name.now) c.args.names.now i (record { ref_ptr = (0, 0); now = [] }) [] c.loop-index-test.true in
    ((λ h. cc h), (λ same. cc ((bytes_decides c.field_at.result.now _).1 (c.field_at.ensures ∙ ap (λ (l : List (List ℕ)). get_or l i []) same ∙ name))))

pub loop-index-preserved : goal.loop-index-preserved
loop-index-preserved c =
    let i = c.loop-index.index in
    let names = map (λ name. name.now) c.args.names.now in
    let named : i < length names = rw length-map c.loop-index-test.true in
    let name = get_or-map (λ name. name.now) c.args.names.now i _ [] c.loop-index-test.true in
    let same = (bytes_decides c.field_at.result.now _).0 (sym c.is_text.ensures ∙ c.if-not-is_text.false) in
    take_more_same (fields_of c.args.fields.now) names i [] (omega arith) named c.loop-index.invariant (sym c.field_at.ensures ∙ same ∙ sym name)
