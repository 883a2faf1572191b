use Rattle.resil_jdk.proofs.ConservationLaws.{jobs-conserved}
use Rattle.resil_jdk.proofs.laws.jobs_conserved.Goals as goal

pub returns : goal.returns
returns c = jobs-conserved
