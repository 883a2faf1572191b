use Rattle.std.proofs.Common.{◌∙◌, sym, arith}
use Rattle.std.proofs.Common.{inl, inr, None}
use Rattle.resil_c.proofs.BookLaws.{picked-queue, below}
use Rattle.resil_c.proofs.pool.book.Book.pick.Goals as goal

pub returns-then-eq-clause-picked : goal.returns-then-eq-clause-picked
returns-then-eq-clause-picked c =
    let picked = c.in_ok-picked.ensures.picked in
    let queue = sym c.eq.ensures ∙ c.if-eq.true in
    rw (← c.self.view_is) (elim picked.1 [
      | inl own ↦ absurd (cc (rw own.0 at queue))
      | inr taken ↦ picked-queue c.self.inside.rule c.pick.new.self _ _ c.self.inside.refused c.self.inside.finished c.in_ok-picked.picked.origin c.in_ok-picked.picked.slot
          c.in_ok-picked.picked.work taken.0 picked.0 taken.1 taken.2 taken.3 taken.4 c.write.ensures.written
    ])

pub returns-then-eq-clause-place : goal.returns-then-eq-clause-place
returns-then-eq-clause-place c =
    let few = below c.self.inside.rule.out c.in_ok-picked.picked.slot.place None c.in_ok-picked.ensures.picked.0 in
    omega (arith, few, c.self.invariant.0)

pub returns-else-eq-clause-place : goal.returns-else-eq-clause-place
returns-else-eq-clause-place c =
    let few = below c.self.inside.rule.out c.in_ok-picked.picked.slot.place None c.in_ok-picked.ensures.picked.0 in
    omega (arith, few, c.self.invariant.0)
