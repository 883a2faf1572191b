use Rattle.std.proofs.Common.{take}
use Rattle.std.specs.BTreeMap.{IsOrdered}
use Rattle.std.specs.Ordering.{nat_cmp}
use Rattle.resil_stats.specs.Stats.{AreJdkCallersOf}
use Rattle.resil_stats.proofs.stats.callers_of.Given as goal

-- the table of the events so far
abbrev pub invariant-loop-event : goal.invariant-loop-event
invariant-loop-event l = record {
  callers : AreJdkCallersOf (take l.event-index l.events) l.callers;
  ordered : IsOrdered nat_cmp l.callers;
}
