use Rattle.resil_replay.proofs.Words.{history_header, parse_event}
use Rattle.resil_replay.proofs.EventLaws.{headers-apart}
use Rattle.resil_replay.proofs.VersionLaws.{version-errors_unique, versions-exclude_errors, versions-unique}
use Rattle.resil_replay.proofs.events.bodies_unique.Goals as goal

pub returns : goal.returns
returns c = record {
  rows = versions-unique history_header parse_event headers-apart;
  fault = versions-exclude_errors history_header parse_event headers-apart;
  faults = version-errors_unique history_header parse_event headers-apart;
}
