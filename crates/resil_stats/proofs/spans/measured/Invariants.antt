use Rattle.std.proofs.Common.{◌≡◌, take}
use Rattle.resil_stats.specs.Stats.{IsJdkLoadAfter}
use Rattle.resil_stats.specs.Spans.{AreBegun, beginnings, spans}
use Rattle.resil_stats.proofs.spans.measured.Given as goal

-- the load after the events so far, where spans began there, and those that ended
abbrev pub invariant-loop-index : goal.invariant-loop-index
invariant-loop-index l = record {
  load : IsJdkLoadAfter (take l.index l.events) l.load;
  begun : AreBegun (beginnings l.measure l.restated (take l.index l.events)) l.begun;
  lengths : l.lengths.items ≡ spans l.measure l.restated l.times (take l.index l.events);
}
