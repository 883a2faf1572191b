use Rattle.std.proofs.Common.{◌≡◌, ℕ, List, replicate, rules}
use Rattle.resil_rule.proofs.RuleLaws.{opens}
use Rattle.resil_rule.proofs.rule.Rule.new.Goals as goal

pub returns-clause-history : goal.returns-clause-history
returns-clause-history g c =
    let made : ◌≡◌ {A = List ℕ} c.in_ok-vec.field-0.items (replicate c.args.callers 0) = search rules in
    rw (c.in_ok-with_capacity.ensures, c.in_ok-with_capacity-2.ensures, c.in_ok-new.ensures, made, c.max-max.ensures, c.core.ensures, c.max.ensures)
    (opens c.args.limits c.args.callers)
