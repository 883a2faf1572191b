-- What is true of the rule's state between any two calls, whatever its history.
use Rattle.std.specs.Prelude.{◌≤◌}
use Rattle.resil_jdk.specs.Limits.{AreJdkLimits}
use Rattle.resil_jdk.specs.declared.rule.JdkRule.TheInside.{Inside}

pub record RuleInvariant (c : Inside) : Type 0 where
  pub limits : AreJdkLimits c.limits
  pub most : c.workers ≤ c.limits.max
  pub sizes : (c.core ≤ c.limits.max) × (c.max ≤ c.limits.max)
