use Rattle.std.proofs.Common.{◌≡◌, drop, map}
use Rattle.toml.specs.View.{table_view}
use Rattle.resil_heads.specs.LayerValues.{check_layers}
use Rattle.resil_heads.proofs.layers.values.check_layers.Given as goal

-- the check of the layers left is that of all layers
abbrev pub invariant-loop-layer : goal.invariant-loop-layer
invariant-loop-layer l =
    check_layers l.stage (map (λ layer. table_view layer.now) (drop l.layer-index l.layers)) ≡ check_layers l.stage (map (λ layer. table_view layer.now) l.layers)
