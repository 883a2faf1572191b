use Rattle.std.proofs.Common.{arith, take}
use Rattle.std.proofs.lemmas.List.{length-take-le, take_more}
use Rattle.resil_stats.proofs.LoadLaws.{no_event}
use Rattle.resil_stats.proofs.stats.callers_of.Goals as goal

pub record_caller-requires-clause-room : goal.record_caller-requires-clause-room
record_caller-requires-clause-room c =
    let few = length-take-le c.loop-event.event-index c.args.events.now (omega (arith, c.loop-event-test.true)) in
    (take c.loop-event.event-index c.args.events.now, c.loop-event.invariant.callers, omega (arith, few, c.loop-event-test.true))

pub loop-event-preserved : goal.loop-event-preserved
loop-event-preserved c =
    let events = c.args.events.now in
    let i = c.loop-event.event-index in
    record {
      callers = rw (take_more events i no_event c.loop-event-test.true) (c.in_ok-record_caller.ensures.counted (take i events) c.loop-event.invariant.callers);
      ordered = c.in_ok-record_caller.ensures.ordered;
    }
