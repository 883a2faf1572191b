use Rattle.resil_retry.proofs.GrowthLaws.{capped-stays, capped-step}
use Rattle.resil_retry.proofs.interval.next_wait.Goals as goal

-- the wait has reached the cap, and no later one falls
pub returns-else-wait-cap-clause-rule : goal.returns-else-wait-cap-clause-rule
returns-else-wait-cap-clause-rule c first steps is =
    let reached = rw is at c.if-wait-cap.false in
    capped-stays first c.args.numerator c.args.denominator c.args.cap steps c.requires.multiplier.0 c.requires.multiplier.1 reached

pub returns-then-wait-cap-clause-rule : goal.returns-then-wait-cap-clause-rule
returns-then-wait-cap-clause-rule c first steps is =
    let a = c.args in
    rw c.min.ensures (capped-step first a.numerator a.denominator a.cap steps a.wait is c.if-wait-cap.true)
