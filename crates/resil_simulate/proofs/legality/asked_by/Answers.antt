use Rattle.resil_simulate.proofs.Words.{[], arith, take, take_more}
use Rattle.resil_stats.proofs.LoadLaws.{no_event}
use Rattle.resil_simulate.proofs.LegalityLaws.{allowed_at, asked_enough, asked_grown}
use Rattle.resil_simulate.proofs.legality.asked_by.Goals as goal

pub loop-event-preserved : goal.loop-event-preserved
loop-event-preserved c =
    let events = c.args.events.now in
    let i = c.loop-event.event-index in
    let was = c.loop-event.invariant in
    let more = take_more events i no_event c.loop-event-test.true in
    let here = c.asked_at.ensures (take i events) was.tally in
    let core = rw here at c.max-most.ensures.core in
    let max = rw here at c.max-most.ensures.max in
    let queue = rw here at c.max-most.ensures.queue in
    record {
      tally = rw (← more) at (c.record.ensures _ was.tally);
      some = omega (arith, max, was.some);
      most = rw more (asked_grown [] (take i events) _ c.loop-event.most c.max-most.result (omega (arith, core)) (omega (arith, max)) (omega (arith, queue)) (omega (arith, core)) (omega (arith, max)) (omega (arith, queue)) was.most);
      least = λ limits are legal.
          let one = let at = allowed_at limits events i no_event c.loop-event-test.true legal in asked_enough limits (take i events) at.0 are _ at.1 in
          let all = was.least limits are legal in
          (omega (arith, core, one, all), omega (arith, max, one, all), omega (arith, queue, one, all));
    }
