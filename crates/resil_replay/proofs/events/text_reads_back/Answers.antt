use Rattle.resil_replay.proofs.EventLaws.{histories-round_trip}
use Rattle.resil_replay.proofs.events.text_reads_back.Goals as goal

pub returns : goal.returns
returns c = histories-round_trip
