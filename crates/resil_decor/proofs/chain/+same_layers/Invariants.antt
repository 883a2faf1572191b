use Rattle.std.proofs.Common.{length}
use Rattle.resil_decor.proofs.chain.+same_layers.Given as goal

abbrev pub decreases-same_layers : goal.decreases-same_layers
decreases-same_layers l = length l.some.now
