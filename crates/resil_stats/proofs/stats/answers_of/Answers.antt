use Rattle.std.proofs.Common.{◌++◌, ap, arith, nat_lt, take}
use Rattle.std.proofs.lemmas.List.{length-take-le, take_more}
use Rattle.resil_stats.proofs.LoadLaws.{first-legal, may-come, next-legal, next-load, no_event}
use Rattle.resil_stats.proofs.stats.answers_of.Goals as goal

pub levels_of-requires : goal.levels_of-requires
levels_of-requires c = (c.requires.legal.0, first-legal c.requires.legal.0 c.args.before.now c.args.events.now c.requires.legal.1)

pub record-requires : goal.record-requires
record-requires c =
    let few = length-take-le c.loop-event.event-index c.args.events.now (omega (arith, c.loop-event-test.true)) in
    (c.args.before.now, take c.loop-event.event-index c.args.events.now, c.loop-event.invariant.answers, omega (arith, few, c.loop-event-test.true))

pub after-load-requires : goal.after-load-requires
after-load-requires c =
    may-come c.requires.legal.0 c.args.before.now c.args.events.now c.requires.legal.1 c.loop-event.event-index no_event c.loop-event-test.true c.loop-event.load c.loop-event.invariant.load c.requires.short

pub loop-event-preserved : goal.loop-event-preserved
loop-event-preserved c =
    let limits = c.requires.legal.0 in
    let legal = c.requires.legal.1 in
    let before = c.args.before.now in
    let events = c.args.events.now in
    let i = c.loop-event.event-index in
    let was = c.loop-event.invariant in
    let idle = ap (nat_lt 0) (c.idle.ensures.after (before ++ take i events) was.load) in
    let load = c.after-load.ensures limits (before ++ take i events) (next-legal limits before events legal i no_event c.loop-event-test.true) was.load in
    record {
      load = next-load limits before events legal i no_event c.loop-event-test.true _ load;
      answers = rw (take_more events i no_event c.loop-event-test.true) (c.record.ensures before (take i events) was.answers idle);
    }
