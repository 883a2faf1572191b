use Rattle.std.proofs.Common.{take}
use Rattle.resil_stats.specs.Stats.{AreJdkCountsOf}
use Rattle.resil_stats.proofs.stats.counts_of.Given as goal

-- the counts of the events so far
abbrev pub invariant-loop-event : goal.invariant-loop-event
invariant-loop-event l = AreJdkCountsOf (take l.event-index l.events) l.counts
