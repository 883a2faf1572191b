use Rattle.resil_replay.proofs.Words.{◌≡◌, arith, length, One, Two, parse_replay_row, replay_rows_header}
use Rattle.resil_replay.proofs.VersionLaws.{version-errors_unique, versions-exclude_errors, versions-unique}
use Rattle.resil_replay.proofs.rows.bodies_unique.Goals as goal

headers-apart : length (replay_rows_header One) ≡ length (replay_rows_header Two) → ⊥
headers-apart e = omega (arith, e)

pub returns : goal.returns
returns c = record {
  rows = versions-unique replay_rows_header parse_replay_row headers-apart;
  fault = versions-exclude_errors replay_rows_header parse_replay_row headers-apart;
  faults = version-errors_unique replay_rows_header parse_replay_row headers-apart;
}
