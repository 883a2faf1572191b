use Rattle.resil_rule.proofs.RunningLaws.{running-within_workers}
use Rattle.resil_rule.proofs.laws.running_within_workers.Goals as goal

pub returns : goal.returns
returns c = running-within_workers
