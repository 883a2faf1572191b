use Rattle.std.proofs.Common.{◌≡◌, ◌∷◌, [], List, refl, sym, subst, ◌∙◌, append_assoc, append-nil}
use Rattle.std.specs.Vec.Iter.{into_iter_items}
use Rattle.std.proofs.lemmas.List.{nil_from_length}
use Rattle.std.proofs.lemmas.Result.{IfOk-weaker}
use Rattle.resil_input.specs.CsvTable.{text_so_far}
use Rattle.resil_chain.specs.Runs.{IsTextOfRuns}
use Rattle.resil_chain.specs.Rows.{ChainRowView}
use Rattle.resil_chain.proofs.runs.run_chain.Goals as goal

pub loop-row-init : goal.loop-row-init
loop-row-init c = record {
  all = refl;
  columns = c.in_ok-table.ensures.columns;
  runs = ([], tt, rw c.new.ensures.items at c.in_ok-table.ensures.text);
}

pub loop-row-preserved : goal.loop-row-preserved
loop-row-preserved c =
    let at = c.loop-row in
    let row = c.in-Some.row in
    let steps : into_iter_items at.row-iterator ≡ row ∷ into_iter_items c.next.new.self = c.in-Some.ensures.steps.0 in
    record {
      all = append_assoc at.yielded (row ∷ []) _ ∙ rw (← steps) at.invariant.all;
      columns = c.in_ok-push_row.ensures.columns;
      runs = (rw c.in-Ok.ensures.copied at c.in_ok-push_row.ensures.text) at.yielded at.invariant.runs;
    }

pub returns : goal.returns
returns c =
    let at = c.loop-row in
    let empty = nil_from_length (into_iter_items at.row-iterator) (sym at.row-iterator.rest.ok.0 ∙ c.in-None.ensures.steps.0) in
    let all = sym (append-nil at.yielded) ∙ rw empty at at.invariant.all ∙ c.into_iter-row-iterator.ensures.into_iter_gives.0 in
    IfOk-weaker c.into_text.result (λ text. text.items ≡ text_so_far at.table) (λ text. IsTextOfRuns c.args.chain.now c.args.rows.items text.items)
    (λ text same. rw same (subst (λ (rows : List ChainRowView). IsTextOfRuns c.args.chain.now rows (text_so_far at.table)) all at.invariant.runs))
    c.into_text.ensures
