-- The law: no number is less than itself.
use Rattle.std.proofs.Common.{arith}
use Rattle.resil_executor.proofs.theorems.a_look_is_a_turn.Goals as goal

pub returns : goal.returns
returns g c limits blank sees = let more = sees.turned in absurd (omega (arith, more))
