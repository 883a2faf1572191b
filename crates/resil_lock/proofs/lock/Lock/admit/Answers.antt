-- A member's seat keeps the rule.
use Rattle.std.proofs.Common.{arith}
use Rattle.resil_lock.proofs.LockSteps.{admits-one}
use Rattle.resil_lock.proofs.lock.Lock.admit.Goals as goal

pub split_seat-requires : goal.split_seat-requires
split_seat-requires g c =
    let words = c.args.self.now.one_word in (c.requires.source, omega arith, admits-one _ _ _ _ _ _ c.requires.rank c.requires.blank)
