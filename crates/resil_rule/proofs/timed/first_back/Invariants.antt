use Rattle.std.proofs.Common.{take}
use Rattle.resil_rule.specs.Timed.{AreAscending}
use Rattle.resil_rule.proofs.timed.first_back.Given as goal

-- the times so far ascend
abbrev pub invariant-loop-index : goal.invariant-loop-index
invariant-loop-index l = AreAscending (take l.index l.times)
