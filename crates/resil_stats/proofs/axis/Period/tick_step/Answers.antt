use Rattle.resil_stats.specs.Axis.{tick_steps}
use Rattle.resil_stats.proofs.AxisLaws.{known-more, widest-more}
use Rattle.resil_stats.proofs.axis.Period.tick_step.Goals as goal

pub loop-step-preserved : goal.loop-step-preserved
loop-step-preserved c =
    let own = rw c.length.ensures at c.wider-widest.ensures in
    let was = c.loop-step.invariant in
    record {
      known = known-more tick_steps _ c.loop-step.step-index c.loop-step.widest c.wider-widest.result _ c.loop-step-test.true own.one was.known;
      widest = widest-more tick_steps _ c.loop-step.step-index c.loop-step.widest c.wider-widest.result _ c.loop-step-test.true own.one was.widest own.kept own.fitting;
    }
