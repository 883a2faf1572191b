use Rattle.std.proofs.Common.{◌≡◌, take}
use Rattle.resil_jdk.specs.RuleState.{IsStateOf}
use Rattle.resil_jdk.proofs.verdict.audit.Given as goal

-- the rule's state is that after the events before the one in hand
abbrev pub invariant-loop-index : goal.invariant-loop-index
invariant-loop-index l = record {
  limits : l.rule.limits ≡ l.limits;
  state : IsStateOf (take l.index l.history) l.rule;
}
