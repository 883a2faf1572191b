use Rattle.std.proofs.Common.{◌≡◌, ◌-◌, length, map}
use Rattle.resil_decor.specs.Passes.{sources_of}
use Rattle.resil_driver.proofs.BulkheadLaws.{SoFar}
use Rattle.resil_driver.proofs.run.bulkheads.make_bulkheads.Given as goal

-- the ids so far have their bulkheads, each with its pass
abbrev pub invariant-instances : goal.invariant-instances
invariant-instances l = record {
  bulkheads : SoFar l.registry l.bulkheads.items;
  passes : sources_of l.passes.items ≡ map (λ b. b.permits) l.bulkheads.items;
}

-- the instances that have no bulkhead yet
abbrev pub decreases-instances : goal.decreases-instances
decreases-instances l = length l.registry.instances - length l.bulkheads.items
