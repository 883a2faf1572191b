use Rattle.resil_replay.proofs.TimedLaws.{timed-round_trip}
use Rattle.resil_replay.proofs.timed.timed_text_reads_back.Goals as goal

pub returns : goal.returns
returns c = timed-round_trip
