-- The exchange keeps the rule.
use Rattle.std.proofs.Common.{ap, ◌∙◌, arith}
use Rattle.resil_lock.proofs.LockSteps.{takes-lock}
use Rattle.resil_lock.proofs.lock.Lock.spin.Goals as goal

pub compare_exchange-requires : goal.compare_exchange-requires
compare_exchange-requires g c =
    let words = c.args.self.now.one_word in (
      c.loop.invariant.table ∙ c.requires.source,
      omega arith,
      takes-lock _ _ _ _ _ _ _ (ap (λ m. m.0.phase) c.loop.invariant.same ∙ c.requires.rest.0),
    )
