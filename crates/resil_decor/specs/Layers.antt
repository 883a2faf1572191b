-- The layers of a chain, wherever they are kept.
use Rattle.std.specs.Prelude.{List, []}
use Rattle.std.specs.Arc.{arc_value}
use Rattle.resil_decor.specs.declared.layer.Layer.{Layer}
use Rattle.resil_decor.specs.declared.layers.Place.{Place}
use Rattle.resil_decor.specs.declared.layers.Place.TheVariants.{Nowhere, Own, Shared}

-- the layers, innermost first: none, of their own, or shared
abbrev pub layers_at : Place → List Layer
layers_at Nowhere = []
layers_at (Own layers) = layers.items
layers_at (Shared layers) = (arc_value layers).items
