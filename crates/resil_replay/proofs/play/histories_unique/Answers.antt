use Rattle.resil_replay.proofs.PlayLaws.{histories-unique}
use Rattle.resil_replay.proofs.play.histories_unique.Goals as goal

pub returns : goal.returns
returns c = histories-unique
