use Rattle.resil_jdk.proofs.WorkerLaws.{workers-within_opening}
use Rattle.resil_jdk.proofs.laws.workers_within_opening.Goals as goal

pub returns : goal.returns
returns c = workers-within_opening
