-- What holds of each round, and of rounds that follow each other, holds of all.
use Rattle.resil_pool.proofs.WorkerLaws.{went}
use Rattle.resil_pool.proofs.worker.make_rounds.Goals as goal

pub returns-clause-made : goal.returns-clause-made
returns-clause-made g c = went g.P.Permitter.AnsweredBetween g.P.Permitter.held g.met.P.Permitter.none_between g.met.P.Permitter.append_between c.work.ensures.gone.0 _ _ c.work.ensures.gone.1
