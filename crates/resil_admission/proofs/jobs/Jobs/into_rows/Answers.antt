use Rattle.std.proofs.Common.{◌≡◌, ◌∙◌, ◌++◌, [], length, sym, arith, append-nil}
use Rattle.std.specs.List.{flat_map}
use Rattle.std.proofs.lemmas.Grind.{common_steps}
use Rattle.std.proofs.lemmas.List.{nil_from_length}
use Rattle.resil_admission.specs.JobsInvariant.{jobs_of, jobs_kept, result_row}
use Rattle.resil_admission.proofs.JobLaws.{results-of, rows-kept}
use Rattle.resil_admission.proofs.jobs.Jobs.into_rows.Goals as goal

pub returns-clause-results : goal.returns-clause-results
returns-clause-results c =
    let at = c.loop-job in
    let rows = c.self.inside.rows.items in
    let later = c.self.inside.later.items in
    let none : length at.later.items ≡ 0 = grind (arith, common_steps, c.in_default.ensures.variant.1, at.later.ok) in
    let empty : at.later.items ≡ [] = nil_from_length at.later.items none in
    let all : at.rows.items ≡ rows ++ flat_map result_row (jobs_of later) = sym (append-nil at.rows.items) ∙ rw empty at at.invariant.rows in
    let done = rw (← c.self.view_is) at (sym c.all_done.ensures ∙ c.if-not-all_done.false) in
    let results = results-of (jobs_kept rows (jobs_of later)) done c.self.invariant.own_runs in
    rw (← c.self.view_is) (rw all (rw rows-kept at results))
