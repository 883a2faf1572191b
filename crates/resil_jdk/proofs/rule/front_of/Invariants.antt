use Rattle.std.proofs.Common.{length}
use Rattle.resil_jdk.specs.RuleView.{IsSameQueue}
use Rattle.resil_jdk.proofs.rule.front_of.Given as goal

-- those that were dropped don't wait
abbrev pub invariant-loop-front : goal.invariant-loop-front
invariant-loop-front l = IsSameQueue l.waits l.initial.line.items l.line.items

abbrev pub decreases-loop-front : goal.decreases-loop-front
decreases-loop-front l = length l.line.items
