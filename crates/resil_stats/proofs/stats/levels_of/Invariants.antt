use Rattle.std.proofs.Common.{take}
use Rattle.resil_stats.specs.Stats.{AreJdkMost, IsJdkLoadAfter}
use Rattle.resil_stats.proofs.stats.levels_of.Given as goal

-- the loads of the events so far
abbrev pub invariant-loop-event : goal.invariant-loop-event
invariant-loop-event l = record {
  most : AreJdkMost (take l.event-index l.events) l.most;
  last : IsJdkLoadAfter (take l.event-index l.events) l.last;
}
