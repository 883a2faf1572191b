use Rattle.std.proofs.Common.{◌++◌, take}
use Rattle.resil_stats.specs.Stats.{AreAnswersOf, IsJdkLoadAfter}
use Rattle.resil_stats.proofs.stats.answers_of.Given as goal

-- the answers to the events so far, and the load after them
abbrev pub invariant-loop-event : goal.invariant-loop-event
invariant-loop-event l = record {
  load : IsJdkLoadAfter (l.before ++ take l.event-index l.events) l.load;
  answers : AreAnswersOf l.before (take l.event-index l.events) l.answers;
}
