use Rattle.std.proofs.Common.{◌≡◌}
use Rattle.std.specs.Vec.Iter.{into_iter_items}
use Rattle.resil_heads.specs.LayerBulkheads.{configured, unconfigured}
use Rattle.resil_heads.proofs.layers.bulkheads.configured.Given as goal

-- the configurations that are left make of the registry so far what all make
abbrev pub invariant-loop-configuration : goal.invariant-loop-configuration
invariant-loop-configuration l =
    configured l.registry (into_iter_items l.configuration-iterator) ≡ configured unconfigured l.fn.said.items
