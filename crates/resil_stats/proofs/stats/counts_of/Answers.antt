use Rattle.std.proofs.Common.{arith, take}
use Rattle.std.proofs.lemmas.List.{length-take-le, take_more}
use Rattle.resil_stats.proofs.LoadLaws.{no_event}
use Rattle.resil_stats.proofs.stats.counts_of.Goals as goal

pub record-requires : goal.record-requires
record-requires c =
    let few = length-take-le c.loop-event.event-index c.args.events.now (omega (arith, c.loop-event-test.true)) in
    (take c.loop-event.event-index c.args.events.now, c.loop-event.invariant, omega (arith, few, c.loop-event-test.true))

pub loop-event-preserved : goal.loop-event-preserved
loop-event-preserved c = rw (take_more c.args.events.now c.loop-event.event-index no_event c.loop-event-test.true) (c.record.ensures _ c.loop-event.invariant)
