-- A visitor's seat keeps the rule.
use Rattle.std.proofs.Common.{arith}
use Rattle.resil_lock.proofs.LockSteps.{enters-lock}
use Rattle.resil_lock.proofs.lock.Lock.seat.Goals as goal

pub load_new_seat-requires : goal.load_new_seat-requires
load_new_seat-requires g c =
    let words = c.args.self.now.one_word in (omega arith, enters-lock _ _ _ _ _ c.requires.blank)
