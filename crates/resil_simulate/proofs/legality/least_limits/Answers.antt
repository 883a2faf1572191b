use Rattle.std.proofs.Common.{arith}
use Rattle.resil_simulate.proofs.LegalityLaws.{legal_least}
use Rattle.resil_simulate.proofs.legality.least_limits.Goals as goal

pub returns-clause-legal : goal.returns-clause-legal
returns-clause-legal c = (
  c.in_ok-limits.ensures.in_range,
  λ limits are legal.
      let enough = c.asked_by-least.ensures.least limits are legal in
      let sizes = c.in_ok-limits.ensures.sizes in
      legal_least limits c.in_ok-limits.limits
      (rw sizes enough.0)
      (rw sizes (omega (arith, enough.0, enough.1, are.max)))
      (rw sizes enough.2)
      c.asked_by-least.result
      (rw sizes (omega arith, omega arith, omega arith))
      c.args.events.now
      c.asked_by-least.ensures.most
      legal,
)
