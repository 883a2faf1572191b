use Rattle.resil_virtual.specs.declared.idle.Idle.{Idle}
use Rattle.resil_virtual.proofs.FirstLaws.{times-more}
use Rattle.resil_virtual.proofs.idle.first_look.Goals as goal

pub loop-place-preserved : goal.loop-place-preserved
loop-place-preserved c = times-more Idle (λ worker. worker.look) c.args.idle.now c.loop-place.place _ c.loop-place-test.true c.loop-place.first c.sooner_time-first.result c.loop-place.invariant c.sooner_time-first.ensures
