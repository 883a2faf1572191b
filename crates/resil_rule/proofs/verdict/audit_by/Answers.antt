use Rattle.resil_rule.proofs.VerdictLaws.{verdict-at}
use Rattle.resil_rule.proofs.verdict.audit_by.Goals as goal

pub returns-then-not-branch-clause-verdict : goal.returns-then-not-branch-clause-verdict
returns-then-not-branch-clause-verdict c =
    let at = c.loop-index in
    let barred = rw c.if-not-branch.true at c.in_ok-follow.ensures.refused in
    let legal = rw at.invariant.limits at at.invariant.state.legal in
    verdict-at c.args.sizes.now c.args.history.now at.index _ c.loop-index-test.true legal (rw at.invariant.limits at (barred _ at.invariant.state))
