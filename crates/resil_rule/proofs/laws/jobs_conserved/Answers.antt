use Rattle.resil_rule.proofs.ConservationLaws.{jobs-conserved}
use Rattle.resil_rule.proofs.laws.jobs_conserved.Goals as goal

pub returns : goal.returns
returns c = jobs-conserved
