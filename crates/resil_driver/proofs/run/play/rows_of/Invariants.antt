use Rattle.std.proofs.Common.{◌≡◌, ◌++◌, map}
use Rattle.std.specs.Vec.Iter.{into_iter_items}
use Rattle.resil_driver.specs.Run.Play.{row_for_job}
use Rattle.resil_driver.proofs.run.play.rows_of.Given as goal

-- the rows so far, and those of the jobs left, are the rows of all jobs
abbrev pub invariant-loop-job : goal.invariant-loop-job
invariant-loop-job l = l.rows.items ++ map (row_for_job l.fn.chain) (into_iter_items l.job-iterator) ≡ map (row_for_job l.fn.chain) (into_iter_items l.initial.job-iterator)
