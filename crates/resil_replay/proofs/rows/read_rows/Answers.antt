use Rattle.resil_replay.proofs.Words.{handed-on, parse_replay_row, replay_rows_header}
use Rattle.resil_replay.proofs.VersionLaws.{second-error}
use Rattle.resil_replay.proofs.rows.read_rows.Goals as goal

pub returns-in_err-read_under-in-Err-BadHeader : goal.returns-in_err-read_under-in-Err-BadHeader
returns-in_err-read_under-in-Err-BadHeader c =
    let one = rw c.in-Err-BadHeader.field-0-is at c.in-Err-BadHeader.ensures in
    let two = c.in_err-read_under-in-Err-BadHeader.ensures in
    let error = second-error replay_rows_header parse_replay_row c.args.body.now c.in_err-read_under-in-Err-BadHeader.field-0.0 one two in
    handed-on c.from_residual.result _ _ c.in_err-read_under-in-Err-BadHeader.field-0.0 c.from_residual.ensures.1 error
