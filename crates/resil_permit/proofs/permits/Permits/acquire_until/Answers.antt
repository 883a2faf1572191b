-- A try that was refused is one refusal more.
use Rattle.std.proofs.Common.{arith}
use Rattle.resil_clock.proofs.Waits.{refused_more}
use Rattle.resil_permit.proofs.permits.Permits.acquire_until.Goals as goal

pub loop-preserved : goal.loop-preserved
loop-preserved g c = grind (arith, refused_more)
