-- The law.
use Rattle.resil_executor.proofs.WorkLaws.{picked_ended}
use Rattle.resil_executor.proofs.theorems.picked_is_ended.Goals as goal

pub returns : goal.returns
returns g c = picked_ended _ _
