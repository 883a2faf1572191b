use Rattle.std.proofs.Common.{take}
use Rattle.resil_replay.proofs.PlayLaws.{row-done, row-played, row-stopped}
use Rattle.resil_replay.proofs.play.play.Goals as goal

pub returns-in-Err : goal.returns-in-Err
returns-in-Err c =
    rw c.error_at_row.ensures
    (row-stopped c.args.limits c.args.rows.now c.loop-index.index _ c.loop-index.pool c.loop-index-test.true c.loop-index.invariant c.in-Err.why c.in-Err.ensures.refused)

pub loop-index-preserved : goal.loop-index-preserved
loop-index-preserved c =
    row-done c.args.limits c.args.rows.now c.loop-index.index _ c.apply_row.new.pool c.loop-index-test.true
    (row-played c.args.limits (take c.loop-index.index c.args.rows.now) c.loop-index.pool c.apply_row.new.pool c.loop-index.invariant _ c.in_default-apply_row.ensures.played)
