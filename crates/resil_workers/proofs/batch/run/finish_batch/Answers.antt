-- The callers are those of a new pool, and the workers are all that it has.
use Rattle.std.proofs.Common.{rules}
use Rattle.std.proofs.lemmas.List.{length-replicate}
use Rattle.resil_workers.proofs.BatchLaws.{are-new, have-nothing, length-new_callers}
use Rattle.resil_workers.proofs.batch.run.finish_batch.Goals as goal

pub submit_and_work-requires-clause-callers : goal.submit_and_work-requires-clause-callers
submit_and_work-requires-clause-callers g c κs within = rw c.in-Ok.ensures.callers (are-new c.in-Ok.pool.source c.args.config.callers)

pub submit_and_work-requires-clause-new : goal.submit_and_work-requires-clause-new
submit_and_work-requires-clause-new g c κs within = rw c.in-Ok.ensures.callers (have-nothing c.in-Ok.pool.source c.args.config.callers)

pub submit_and_work-requires-clause-rows : goal.submit_and_work-requires-clause-rows
submit_and_work-requires-clause-rows g c κs within = rw (c.in-Ok.ensures.callers, length-new_callers) (c.all_from.ensures.0 (search rules))

pub returns-in-Ok-submit_and_work-clause-finished : goal.returns-in-Ok-submit_and_work-clause-finished
returns-in-Ok-submit_and_work-clause-finished g c = rw (c.in-Ok.ensures.callers, length-new_callers, c.in-Ok.ensures.workers, length-replicate) at c.in-Ok-submit_and_work.ensures.finished
