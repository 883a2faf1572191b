-- The first poll was the last, or it was in vain and all others came after it.
use Rattle.std.proofs.Common.{arith, ap, inl, inr, refl}
use Rattle.std.specs.Prelude.{not}
use Rattle.resil_executor.specs.Seats.{known_to}
use Rattle.resil_executor.proofs.executor.Executor.join_for_by.Goals.{then-first-via-then-first, then-first-via-else-first+then-is_zero}
use Rattle.resil_executor.proofs.executor.Executor.join_for_by.Goals as goal

pub returns-then-first-clause-by_the_clock : goal.returns-then-first-clause-by_the_clock
returns-then-first-clause-by_the_clock g c = (
  known_to c.args.visitor.now.seat,
  inl (record {
    same = refl;
    why = elim c.then-first.branch [
      | then-first-via-then-first w ↦ inl (ap not w.if-first.true)
      | then-first-via-else-first+then-is_zero w ↦ inr (inl (grind (arith)))
    ];
  }),
  c.have_all_finished-first.ensures.look,
)

pub returns-in-Some-clause-by_the_clock : goal.returns-in-Some-clause-by_the_clock
returns-in-Some-clause-by_the_clock g c =
    let (waited, since, look) = c.join_until.ensures.by_the_clock in (
      waited,
      inr (record {
        some = grind (arith);
        first = known_to c.have_all_finished-first.new.visitor.seat;
        at_first = record { look = c.have_all_finished-first.ensures.look; unfinished = rw c.if-first.false at c.have_all_finished-first.ensures.unfinished };
        start = c.in-Some.time.start;
        begun = c.in-Some.ensures.read;
        since = rw c.in-Some.ensures.longest at since;
      }),
      look,
    )

pub returns-in-None-clause-by_the_clock : goal.returns-in-None-clause-by_the_clock
returns-in-None-clause-by_the_clock g c =
    (known_to c.args.visitor.now.seat, inl (record { same = refl; why = inr (inr (inr c.in-None.ensures.unread)) }), c.have_all_finished-first.ensures.look)
