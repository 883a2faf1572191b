-- Each part of the law follows from what holds of any lock between any two steps.
use Rattle.resil_lock.proofs.BetweenSteps.{between-steps}
use Rattle.resil_executor.specs.Log.{MayHaveWritten}
use Rattle.resil_executor.proofs.OneLogLaws.{one-log}
use Rattle.resil_executor.proofs.theorems.holds_of_the_log.Goals as goal

pub returns : goal.returns
returns g c = λ opening s k. one-log (λ o. o.limits) (λ state. state.rule) _ (λ key log state home. home.0) _ opening s.words s.homes s.views (between-steps _ MayHaveWritten _ opening s.words s.homes s.views k)
