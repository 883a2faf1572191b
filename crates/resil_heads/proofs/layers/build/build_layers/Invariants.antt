use Rattle.std.proofs.Common.{◌≡◌}
use Rattle.std.specs.Vec.Iter.{into_iter_items}
use Rattle.resil_heads.specs.LayerBuild.{build_layers}
use Rattle.resil_heads.proofs.BulkheadLaws.{after_layers}
use Rattle.resil_heads.proofs.layers.build.build_layers.Given as goal

-- the layers so far, and those that are left, are all layers
abbrev pub invariant-loop-said : goal.invariant-loop-said
invariant-loop-said l =
    after_layers l.layers.items (build_layers l.registry (into_iter_items l.said-iterator)) ≡ build_layers l.fn.registry l.fn.asked.items
