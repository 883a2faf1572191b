-- What the closer saw at the closing it has seen after the work.
use Rattle.std.proofs.Common.{subst}
use Rattle.std.specs.Bool.{OnTrue}
use Rattle.resil_pool.specs.Lock.LoggedEvent.{events_in}
use Rattle.resil_pool.specs.Hold.{BeginsWithRows}
use Rattle.resil_workers.proofs.HoldLaws.{begins_in_log}
use Rattle.resil_workers.proofs.batch.run.submit_then_work.Goals as goal

pub returns-clause-begins : goal.returns-clause-begins
returns-clause-begins g c =
    begins_in_log _ _ _
    (subst (λ b. OnTrue b (BeginsWithRows c.args.batch.now.rows.now (events_in c.close_held-in_order.new.closer.seen))) c.in_ok-ends.ensures.in_order c.close_held-in_order.ensures.begins)
    c.work_off-closer.ensures.begins
