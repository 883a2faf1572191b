use Rattle.resil_virtual.proofs.AtOnceStepLaws.{same-at-once}
use Rattle.resil_virtual.proofs.laws.same_at_once.Goals as goal

pub returns : goal.returns
returns c = same-at-once
