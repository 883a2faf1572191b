use Rattle.std.proofs.Common.{◌≡◌, ◌≤◌, take, length, vec_capacity}
use Rattle.resil_decor.proofs.layers.copy_layers.Given as goal

abbrev pub invariant-loop-layer : goal.invariant-loop-layer
invariant-loop-layer l = (l.copies.items ≡ take l.layer-index l.layers) × (length l.layers ≤ vec_capacity l.copies)
