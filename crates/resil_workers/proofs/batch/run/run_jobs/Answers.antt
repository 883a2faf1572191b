-- All parts are there, the callers' answers about their rows are in the report, and if there is no report, the drain says why.
use Rattle.std.proofs.Common.{List, map, sym, ◌∙◌, subst}
use Rattle.std.proofs.lemmas.List.{length-map}
use Rattle.resil_pool.specs.declared.hold.JobRow.{JobRow}
use Rattle.resil_pool.specs.Hold.{BeginsWithRows}
use Rattle.resil_workers.specs.Batch.Submit.{ArePlansOf}
use Rattle.resil_workers.specs.Batch.Run.{HasStranger}
use Rattle.resil_workers.proofs.HoldLaws.{begins_later}
use Rattle.resil_workers.proofs.BatchLaws.{are-plans, length-receipts, has-handles, only-stranger, has-stranger}
use Rattle.resil_workers.proofs.batch.run.run_jobs.Goals as goal

pub returns-in-Ok-clause-callers : goal.returns-in-Ok-clause-callers
returns-in-Ok-clause-callers g c = sym (length-map _ (λ own. own.items)) ∙ (length-receipts _ _ c.in-Ok.ensures.receipts_handed_in ∙ c.in_ok-pool.ensures.finished.number)

pub returns-in-Ok-clause-plans : goal.returns-in-Ok-clause-plans
returns-in-Ok-clause-plans g c =
    subst (λ (rows : List JobRow). ArePlansOf rows (map (λ own. own.items) c.in-Ok.report.receipts.items)) c.as_slice.ensures.value (are-plans _ _ _ c.in_ok-pool.ensures.finished.told c.in-Ok.ensures.receipts_handed_in)

pub returns-in-Ok-clause-held_rows : goal.returns-in-Ok-clause-held_rows
returns-in-Ok-clause-held_rows g c hold =
    subst (λ (rows : List JobRow). BeginsWithRows rows c.in-Ok.report.history.items) c.as_slice.ensures.value (begins_later _ _ _ (c.in_ok-pool.ensures.begins hold) c.in-Ok.ensures.begins_with_closers)

pub returns-clause-stranger : goal.returns-clause-stranger
returns-clause-stranger g c _ =
    let batch = c.in_ok-pool.ensures in
    let all = has-handles _ _ _ _ _ _ batch.limits batch.number batch.finished in
    let told = only-stranger c.in-Err._fault (λ missing. c.in-Err.ensures.part_missing.0 missing all) c.in-Err.ensures.receipts_agree in
    subst (HasStranger c.args.config.limits c.args.config.callers) c.as_slice.ensures.value (has-stranger _ _ _ _ _ _ _ batch.limits batch.finished (c.in-Err.ensures.ended all) told)

pub returns-clause-bad_caller : goal.returns-clause-bad_caller
returns-clause-bad_caller g c =
    let told = rw c.as_slice.ensures.value at c.in_ok-pool.ensures.bad_caller in
    ((λ same. absurd (cc same)), (λ bad. absurd (cc (told.1 bad))))
