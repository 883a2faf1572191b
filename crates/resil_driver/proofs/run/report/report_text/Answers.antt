use Rattle.std.proofs.Common.{◌++◌, ◌∙◌, arith, codes}
use Rattle.std.proofs.lemmas.List.{take_all}
use Rattle.resil_replay.specs.declared.history.Version.TheVariants.{One}
use Rattle.resil_replay.specs.History.{history_text}
use Rattle.resil_driver.proofs.ReportLaws.{report-more}
use Rattle.resil_driver.proofs.run.report.report_text.Goals as goal

pub loop-row-preserved : goal.loop-row-preserved
loop-row-preserved c =
    let written = rw c.loop-row.invariant.text at c.in_ok-push_result.ensures.text in
    record {
      columns = c.in_ok-push_result.ensures.columns;
      text = written ∙ report-more (history_text One c.args.history.now ++ codes "\n") c.args.results.now c.loop-row.row-index c.row-item.result c.loop-row-test.true c.row-item.is;
    }

pub returns : goal.returns
returns c =
    let whole = rw (take_all c.loop-row.row-index c.args.results.now (omega arith)) at c.loop-row.invariant.text in
    rw whole at c.into_text.ensures
