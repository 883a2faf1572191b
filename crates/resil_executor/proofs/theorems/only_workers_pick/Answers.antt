-- The law.
use Rattle.resil_executor.proofs.WorkLaws.{only_workers}
use Rattle.resil_executor.proofs.theorems.only_workers_pick.Goals as goal

pub returns : goal.returns
returns g c = only_workers _
