use Rattle.resil_rule.proofs.RuleLaws.{close-follows}
use Rattle.resil_rule.proofs.rule.Rule.close.Goals as goal

pub returns-clause-follows : goal.returns-clause-follows
returns-clause-follows g c = rw (← c.self.view_is) (close-follows _ c.if-self.false)
