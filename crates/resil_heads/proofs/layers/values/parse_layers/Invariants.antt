use Rattle.std.proofs.Common.{◌≡◌, drop, map}
use Rattle.toml.specs.View.{table_view}
use Rattle.resil_heads.specs.Keys.{each}
use Rattle.resil_heads.specs.LayerValues.{parse_layer}
use Rattle.resil_heads.proofs.LayerLaws.{after}
use Rattle.resil_heads.proofs.layers.values.parse_layers.Given as goal

-- what the layers so far say, and what those left say, is what all layers say
abbrev pub invariant-loop-layer : goal.invariant-loop-layer
invariant-loop-layer l =
    after l.said.items (each (λ layer. parse_layer (table_view layer.now)) (drop l.layer-index l.layers))
    ≡ each parse_layer (map (λ layer. table_view layer.now) l.layers)
