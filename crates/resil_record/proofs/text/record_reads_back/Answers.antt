use Rattle.resil_record.proofs.TextLaws.{records-round_trip}
use Rattle.resil_record.proofs.text.record_reads_back.Goals as goal

pub returns : goal.returns
returns c = records-round_trip
