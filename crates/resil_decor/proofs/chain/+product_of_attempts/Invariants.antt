use Rattle.std.proofs.Common.{length}
use Rattle.resil_decor.proofs.chain.+product_of_attempts.Given as goal

abbrev pub decreases-product_of_attempts : goal.decreases-product_of_attempts
decreases-product_of_attempts l = length l.layers.now
