-- Each part of the law follows from the rule that the table keeps.
use Rattle.resil_lock.proofs.BetweenSteps.{between-steps}
use Rattle.resil_lock.proofs.laws.holds_between_steps.Goals as goal

pub returns : goal.returns
returns g c = λ key s k. between-steps g.S.Guarded.StandsFor g.S.Guarded.MayHaveWritten g.S.Guarded.is_own key s.words s.homes s.views k
