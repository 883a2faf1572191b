-- The first try was the last, or it was refused and all others came after it.
use Rattle.std.proofs.Common.{arith, inl, inr, refl}
use Rattle.resil_permit.specs.TryAcquire.{last_try}
use Rattle.resil_permit.specs.Waits.{is_refused}
use Rattle.resil_permit.proofs.Waits.{waited_by}
use Rattle.resil_permit.proofs.permits.Permits.acquire_within.Goals as goal

pub returns-then-eq-clause-by_the_clock : goal.returns-then-eq-clause-by_the_clock
returns-then-eq-clause-by_the_clock g c = (c.args.pass.now, inl (record { same = refl; why = grind (arith) }), c.try_acquire-first.ensures.tried)

pub returns-in_default-clause-by_the_clock : goal.returns-in_default-clause-by_the_clock
returns-in_default-clause-by_the_clock g c = (c.args.pass.now, inl (record { same = refl; why = grind (arith) }), c.try_acquire-first.ensures.tried)

pub returns-clause-tried : goal.returns-clause-tried
returns-clause-tried g c =
    let (waited, since, tried) = c.acquire_until-answer.ensures.by_the_clock in
    (waited, waited_by (g.R.Reads.HasSaid c.args.rt.now) _ c.args.self.now.max _ _ (is_refused (last_try c.acquire_until-answer.result)) (inr (grind (arith, since))), tried)
