-- One more round.
use Rattle.std.proofs.Common.{suc}
use Rattle.resil_lock.proofs.lock.Lock.work.Goals as goal

pub loop-preserved-in-Ran : goal.loop-preserved-in-Ran
loop-preserved-in-Ran g c = record {
  iterator = (tt, tt);
  can = c.round.ensures.can;
  gone = (suc c.loop.invariant.gone.0, (c.loop.worker, c.loop.invariant.gone.1, c.round.ensures.gone));
}

pub loop-preserved : goal.loop-preserved
loop-preserved g c = record {
  iterator = (tt, tt);
  can = c.round.ensures.can;
  gone = (suc c.loop.invariant.gone.0, (c.loop.worker, c.loop.invariant.gone.1, c.round.ensures.gone));
}

pub returns-in-Over-clause-gone : goal.returns-in-Over-clause-gone
returns-in-Over-clause-gone g c = (suc c.loop.invariant.gone.0, (c.loop.worker, c.loop.invariant.gone.1, c.round.ensures.gone))
