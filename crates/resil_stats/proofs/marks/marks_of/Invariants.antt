use Rattle.std.proofs.Common.{◌≡◌, take}
use Rattle.resil_stats.specs.Marks.{marks_in}
use Rattle.resil_stats.proofs.marks.marks_of.Given as goal

-- the marks so far are those of the events so far
abbrev pub invariant-loop-index : goal.invariant-loop-index
invariant-loop-index l = l.marked.items ≡ marks_in (take l.index l.events)
