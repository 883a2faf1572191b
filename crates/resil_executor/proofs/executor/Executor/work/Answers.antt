-- What the worker sees when its caller has the pool again is what the rounds left.
use Rattle.std.proofs.Common.{rules, sym}
use Rattle.resil_executor.proofs.WorkLaws.{gone-in_all}
use Rattle.resil_executor.proofs.executor.Executor.work.Goals as goal

pub returns : goal.returns
returns g c =
    let gone = gone-in_all g.W.RunOnce.HasRun c.work.ensures.gone.0 _ _ c.work.ensures.gone.1 in
    let pool = gone.0 in
    let worker_back = sym gone.1 in
    record { mine = search rules; worked = search rules; over = search rules }
