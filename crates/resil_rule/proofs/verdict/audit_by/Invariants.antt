use Rattle.std.proofs.Common.{◌≡◌, [], take}
use Rattle.resil_rule.specs.RuleState.{IsStateOf}
use Rattle.resil_rule.proofs.verdict.audit_by.Given as goal

-- the rule's state is the one after the events before the current one
abbrev pub invariant-loop-index : goal.invariant-loop-index
invariant-loop-index l = record {
  limits : l.rule.limits ≡ l.sizes;
  state : IsStateOf (take l.index l.history) l.rule;
  picked : l.rule.unpicked ≡ [];
}
