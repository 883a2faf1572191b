use Rattle.std.proofs.Common.{arith}
use Rattle.std.proofs.lemmas.Grind.{common_steps}
use Rattle.std.proofs.KnownBytes.{Consumes-trans}
use Rattle.resil_input.proofs.io.read_up_to.Goals as goal

pub returns-in_err-count-clause-taken : goal.returns-in_err-count-clause-taken
returns-in_err-count-clause-taken g c =
    (_, grind (arith, common_steps, c.in_err-count.ensures.taken.1), Consumes-trans _ _ _ _ _ c.pieces.invariant.took c.in_err-count.ensures.taken.2)
