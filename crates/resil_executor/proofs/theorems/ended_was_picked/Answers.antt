-- The law.
use Rattle.resil_executor.proofs.WorkLaws.{ended_picked}
use Rattle.resil_executor.proofs.theorems.ended_was_picked.Goals as goal

pub returns : goal.returns
returns g c = ended_picked _ _
