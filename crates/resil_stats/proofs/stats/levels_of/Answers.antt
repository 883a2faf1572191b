use Rattle.std.proofs.Common.{[], arith, take}
use Rattle.std.proofs.lemmas.List.{take_more}
use Rattle.resil_stats.proofs.LoadLaws.{may-come, next-legal, next-load, no_event}
use Rattle.resil_stats.proofs.MostLaws.{are-most_push}
use Rattle.resil_stats.proofs.stats.levels_of.Goals as goal

pub after-last-requires : goal.after-last-requires
after-last-requires c = may-come c.requires.0 [] c.args.events.now c.requires.1 c.loop-event.event-index no_event c.loop-event-test.true c.loop-event.last c.loop-event.invariant.last (omega arith)

pub loop-event-preserved : goal.loop-event-preserved
loop-event-preserved c =
    let events = c.args.events.now in
    let i = c.loop-event.event-index in
    let was = c.loop-event.invariant in
    let legal = next-legal c.requires.0 [] events c.requires.1 i no_event c.loop-event-test.true in
    let last = c.after-last.ensures c.requires.0 (take i events) legal was.last in
    let most = are-most_push _ _ _ _ _ c.max-most.ensures.waiting c.max-most.ensures.running c.max-most.ensures.workers last was.most in
    record { most = rw (take_more events i no_event c.loop-event-test.true) most; last = next-load c.requires.0 [] events c.requires.1 i no_event c.loop-event-test.true _ last }
