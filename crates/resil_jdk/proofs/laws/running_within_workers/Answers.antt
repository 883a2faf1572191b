use Rattle.resil_jdk.proofs.WorkerLaws.{running-within_workers}
use Rattle.resil_jdk.proofs.laws.running_within_workers.Goals as goal

pub returns : goal.returns
returns c = running-within_workers
