-- What is true of the rule's state between any two calls, for any history.
use Rattle.std.specs.Prelude.{◌≡◌, ◌≤◌, ◌+◌, length}
use Rattle.resil_rule.specs.Sizes.{AreSizes}
use Rattle.resil_rule.specs.Slots.{ids_out}
use Rattle.resil_rule.specs.declared.rule.Rule.TheInside.{Inside}

module _ {W : Type 0} where
  pub record RuleInvariant (c : Inside W) : Type 0 where
    pub limits : AreSizes c.limits
    -- the rings have their capacities, and there is a place for each worker's job
    pub queue : c.waiting.capacity ≡ c.limits.queue
    pub starts : c.unpicked.capacity ≡ c.limits.max
    pub places : length c.out ≡ c.limits.max
    pub few : length c.unpicked.items + length (ids_out c.out) ≤ c.workers
    pub most : c.workers ≤ c.limits.max
    pub sizes : (c.core ≤ c.max) × (c.max ≤ c.limits.max)
