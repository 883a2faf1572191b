use Rattle.std.proofs.Common.{arith}
use Rattle.resil_rule.proofs.rule.Rule.check_sizes.Goals as goal

pub returns-then-core-lt1-clause-within : goal.returns-then-core-lt1-clause-within
returns-then-core-lt1-clause-within g c =
    let greatest = c.most_core-most.ensures.no_less in
    rw (← c.self.view_is) ((λ no. absurd (cc no)), (λ within. absurd (omega (arith, c.then-core-lt1.either, within.0, within.1, within.2, greatest))))
