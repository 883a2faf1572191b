use Rattle.resil_simulate.proofs.Words.{take, nat_cmp, IsOrdered, AreTimesOf}
use Rattle.resil_simulate.proofs.history.times_of.Given as goal

-- the times by the events so far
abbrev pub invariant-loop-timed : goal.invariant-loop-timed
invariant-loop-timed l = record {
  times : AreTimesOf l.moment (take l.timed-index l.history) l.times;
  ordered : IsOrdered nat_cmp l.times;
}
