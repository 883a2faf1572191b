use Rattle.resil_jdk.proofs.FromRuleLaws.{legal-alike}
use Rattle.resil_jdk.proofs.laws.legal_alike.Goals as goal

pub returns : goal.returns
returns c = legal-alike
