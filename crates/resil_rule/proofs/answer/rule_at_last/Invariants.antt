use Rattle.std.proofs.Common.{◌≡◌, []}
use Rattle.resil_rule.proofs.answer.rule_at_last.Given as goal

-- all jobs with their own worker are picked
abbrev pub invariant-loop-event : goal.invariant-loop-event
invariant-loop-event l = (l.rule.unpicked ≡ [])
