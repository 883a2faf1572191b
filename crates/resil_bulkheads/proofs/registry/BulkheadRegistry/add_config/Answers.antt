use Rattle.std.proofs.Common.{ℕ, map, subst, sym}
use Rattle.std.specs.Arc.{arc_value}
use Rattle.resil_registry.specs.Registry.{RegistryView}
use Rattle.resil_bulkheads.specs.Bulkheads.{BulkheadsInvariant}
use Rattle.resil_bulkheads.proofs.BulkheadsLaws.{BulkheadsInvariant_with_config}
use Rattle.resil_bulkheads.proofs.registry.BulkheadRegistry.add_config.Goals.{in-Ok, in-Err}
use Rattle.resil_bulkheads.proofs.registry.BulkheadRegistry.add_config.Goals as goal

pub invariant_of-self : goal.invariant_of-self
invariant_of-self c =
    elim c.match-add_config.branch [
      | in-Ok w ↦ BulkheadsInvariant_with_config c.self.inside.names c.add_config.new.self c.args.name.now c.args.max (map arc_value c.self.inside.bulkheads.items) w.in-Ok.ensures.added c.self.invariant
      | in-Err w ↦ subst (λ (l : RegistryView ℕ). BulkheadsInvariant (record { lists = l; bulkheads = map arc_value c.self.inside.bulkheads.items })) (sym w.in-Err.ensures.unchanged) c.self.invariant
    ]
