use Rattle.std.proofs.Common.{refl}
use Rattle.resil_rule.proofs.RuleLaws.{resize-follows}
use Rattle.resil_rule.proofs.rule.Rule.resize.Goals as goal

pub returns-clause-follows : goal.returns-clause-follows
returns-clause-follows g c =
    let within = rw (← c.self.view_is) at (c.in_ok-check_sizes.ensures.within.0 refl) in
    rw (← c.self.view_is) (resize-follows _ c.args.core c.args.max within.0 within.1 within.2)
