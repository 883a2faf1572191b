use Rattle.resil_simulate.proofs.HistoryLaws.{last-more, no_timed}
use Rattle.resil_simulate.proofs.history.last_at.Goals as goal

pub loop-timed-preserved : goal.loop-timed-preserved
loop-timed-preserved c = last-more c.args.history.now c.loop-timed.timed-index no_timed c.loop-timed-test.true
