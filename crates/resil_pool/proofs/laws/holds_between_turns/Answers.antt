-- What holds of any lock between any two steps gives each part of the law.
use Rattle.resil_lock.proofs.BetweenSteps.{between-steps}
use Rattle.resil_pool.specs.Lock.{is_own, StandsFor, MayHaveWritten}
use Rattle.resil_pool.proofs.BetweenTurns.{holds_between_turns}
use Rattle.resil_pool.proofs.laws.holds_between_turns.Goals as goal

pub returns : goal.returns
returns c = λ limits s k. holds_between_turns limits s.words s.homes s.views (between-steps StandsFor MayHaveWritten is_own limits s.words s.homes s.views k)
