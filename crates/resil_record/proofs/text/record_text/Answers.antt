use Rattle.std.proofs.Common.{arith}
use Rattle.std.proofs.lemmas.List.{take_all}
use Rattle.resil_record.proofs.text.record_text.Goals as goal

pub returns : goal.returns
returns c =
    let whole = rw (take_all c.loop-timed.timed-index c.args.history.now (omega arith)) at c.loop-timed.invariant.text in
    rw whole at c.into_text.ensures
