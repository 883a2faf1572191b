-- A job that was found was run and ended. If none was found, there is nothing to show.
use Rattle.std.proofs.Common.{ap}
use Rattle.resil_executor.specs.Turn.{WasRun}
use Rattle.resil_executor.proofs.WorkLaws.{ran-works, rested-works}
use Rattle.resil_executor.proofs.executor.Executor.work_once.Goals as goal

pub returns-in-Found-clause-worked : goal.returns-in-Found-clause-worked
returns-in-Found-clause-worked g c =
    let was_run : WasRun g.W.RunOnce.HasRun c.in-Found.picked.work = (c.args.context.now, c.run-ran.result.output, c.run-ran.new.context, c.run-ran.ensures.ran) in
    ran-works _ _ _ _ _ _ _ _ c.in-Found.ensures.found c.finish.ensures.ended (ap (λ s. s.id) c.run-ran.ensures.slot) was_run

pub returns-in-Nothing-clause-worked : goal.returns-in-Nothing-clause-worked
returns-in-Nothing-clause-worked g c = rested-works _ _ _ _ c.in-Nothing.ensures.nothing

pub returns-in-Over-clause-worked : goal.returns-in-Over-clause-worked
returns-in-Over-clause-worked g c = rested-works _ _ _ _ c.in-Over.ensures.nothing
