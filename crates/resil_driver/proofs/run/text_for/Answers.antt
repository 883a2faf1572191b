use Rattle.resil_driver.specs.Run.{IsErrorFor}
use Rattle.resil_input.proofs.RowLaws.{handed-on}
use Rattle.resil_driver.proofs.ErrorLaws.{run-body-refused}
use Rattle.resil_driver.proofs.JobLaws.{jobs-of_callers}
use Rattle.resil_driver.proofs.run.text_for.Goals as goal

pub play_run-requires-clause-jobs : goal.play_run-requires-clause-jobs
play_run-requires-clause-jobs g c = λ _ _. jobs-of_callers c.args.request.words.callers c.requires.callers _ c.in_ok-jobs.jobs.items c.in_ok-jobs.ensures

pub returns-in_err-jobs : goal.returns-in_err-jobs
returns-in_err-jobs g c = λ input parts.
    let May = g.J.JobRunner.MayAnswer in
    handed-on c.from_residual.result _ (IsErrorFor May c.args.request.words input) _ c.from_residual.ensures.1
    (run-body-refused May c.args.request.words input c.args.request.head.now c.args.body.now c.in_err-jobs.field-0.0 parts c.in_err-jobs.ensures)

pub returns : goal.returns
returns g c = λ input parts.
    let written = rw (c.deref.ensures.value, c.deref-2.ensures.value) at c.in_ok-report_text.ensures in
    (c.in_ok-report.report, (c.args.request.head.now, c.args.body.now, c.in_ok-jobs.jobs.items, parts, c.in_ok-jobs.ensures, c.in_ok-report.ensures.report), written)
