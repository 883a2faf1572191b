-- One more step is made, or is the first that can't be.
use Rattle.std.proofs.Common.{arith}
use Rattle.resil_permit.proofs.Weavings.{woven_more, refused_at, memory_alone}
use Rattle.resil_permit.proofs.interleaving.weave.Goals as goal

pub returns-in-Err-clause-refused : goal.returns-in-Err-clause-refused
returns-in-Err-clause-refused c =
    let woven = c.loop-index.invariant.woven in
    rw c.at.ensures (refused_at c.args.max c.args.steps.now c.loop-index.index _ woven.made c.loop-index-test.true (omega arith) c.in-Err.stuck (c.in-Err.ensures c.args.max _ woven.follows))

pub loop-index-preserved : goal.loop-index-preserved
loop-index-preserved c =
    let woven = c.loop-index.invariant.woven in
    let more = woven_more c.args.max c.args.steps.now c.loop-index.index _ _ _ _ _ _ _ c.in-Ok.shown woven c.loop-index-test.true (c.in-Ok.ensures c.args.max _ woven.follows) in
    record {
      woven = rw (c.push.ensures.shown, c.push.ensures.events, c.caller.ensures) more;
      shown_count = omega arith;
      events_count = omega arith;
      shown_room = omega arith;
      events_room = omega arith;
    }

pub returns-in-Err-clause-made : goal.returns-in-Err-clause-made
returns-in-Err-clause-made c few all =
    let woven = c.loop-index.invariant.woven in
    memory_alone c.args.max c.args.steps.now _ few all
    (rw c.at.ensures (refused_at c.args.max c.args.steps.now c.loop-index.index _ woven.made c.loop-index-test.true few c.in-Err.stuck (c.in-Err.ensures c.args.max _ woven.follows)))
