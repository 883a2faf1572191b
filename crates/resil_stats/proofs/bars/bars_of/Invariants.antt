use Rattle.std.proofs.Common.{take}
use Rattle.resil_stats.specs.Bars.{IsDrawn}
use Rattle.resil_stats.proofs.bars.bars_of.Given as goal

-- the drawing is that of the events so far
abbrev pub invariant-loop-index : goal.invariant-loop-index
invariant-loop-index l = IsDrawn (take l.index l.events) l.events l.drawing.bars.items l.drawing.ends.items
