-- One reading more.
use Rattle.std.proofs.Common.{arith}
use Rattle.resil_clock.proofs.Waits.{read_more}
use Rattle.resil_task.proofs.mailbox.Mailbox.take_within.Goals as goal

pub loop-preserved : goal.loop-preserved
loop-preserved g c = grind (arith, read_more)
