use Rattle.std.proofs.Common.{◌≡◌, ◌-◌, ◌<◌, ◌≤◌, ◌+◌, ◌∙◌, ℕ, Some, List, [], cond, map, set, length, sym, ap, arith}
use Rattle.std.proofs.lemmas.Grind.{common_steps}
use Rattle.std.proofs.lemmas.List.{get_or-map, map-set}
use Rattle.resil_admission.specs.Words.{Id, Place, is_same_id}
use Rattle.resil_admission.specs.SubmissionTable.{row_at, place_at}
use Rattle.resil_admission.proofs.submission_table.SubmissionTable.set.Goals as goal

placed : (table : List (List Place)) (id : Id) (place : Place) (index : ℕ) → place.behind ≡ index + 1 → 1 ≤ id.number → id.number ≤ length (row_at table id.caller) → (other : Id)
    → place_at (set table id.caller (set (row_at table id.caller) (id.number - 1) place)) other ≡ cond (is_same_id id other) (Some index) (place_at table other)
placed table id place index is low within other = grind (arith, common_steps, is)

pub returns : goal.returns
returns c other =
    let rows = c.self.inside.rows.items in
    let row = c.index_mut-row.result.now in
    let kept = rw (← c.self.view_is) at c.requires in
    let inside : c.args.id.caller < length rows = grind (arith, common_steps, kept) in
    let same : row.items ≡ row_at (map (λ row. row.items) rows) c.args.id.caller = ap (λ row. row.items) c.index_mut-row.ensures.value ∙ sym (get_or-map (λ row. row.items) rows c.args.id.caller row [] inside) in
    rw (← c.self.view_is, map-set, same) (placed (map (λ row. row.items) rows) c.args.id c.at.result c.args.index c.at.ensures kept.0 kept.1 other)
