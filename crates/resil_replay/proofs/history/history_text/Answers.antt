use Rattle.std.proofs.Common.{arith, take_all}
use Rattle.resil_replay.proofs.history.history_text.Goals as goal

pub returns : goal.returns
returns c =
    let whole = rw (take_all c.loop-event.event-index c.args.history.now (omega arith)) at c.loop-event.invariant.text in
    rw whole at c.into_text.ensures
