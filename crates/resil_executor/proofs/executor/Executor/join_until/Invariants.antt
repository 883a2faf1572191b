-- The visitor still belongs to this pool. Each of its polls was in vain, and after each some of the time was left, by a reading of its own.
use Rattle.std.proofs.Common.{◌≡◌, ◌≤◌}
use mathlib.Core.List.{IsPrefix}
use Rattle.std.specs.Duration.{as_nanos}
use Rattle.resil_clock.specs.Waits.{HasWaitedUntil}
use Rattle.resil_executor.specs.Joining.{IsLookInVain}
use Rattle.resil_executor.specs.Seats.{IsOf, limits_of, known_to}
use Rattle.resil_executor.proofs.executor.Executor.join_until.Given as goal

abbrev pub invariant-loop : goal.invariant-loop
invariant-loop g l = record {
  iterator : (goal.iterator-loop g).can_next l.iterator' × (goal.iterator-loop g).is_finite l.iterator';
  mine : IsOf l.self l.visitor.seat;
  start : l.time.start ≡ l.initial.time.start;
  longest : l.time.longest ≡ l.initial.time.longest;
  waited : HasWaitedUntil (g.R.Reads.HasSaid l.rt) (as_nanos l.initial.time.longest) l.initial.time.start (IsLookInVain (limits_of l.self)) (known_to l.initial.visitor.seat) (known_to l.visitor.seat) l.time.last;
  begins : IsPrefix l.initial.visitor.seat.me.0.seen l.visitor.seat.me.0.seen;
  wrote : l.visitor.seat.me.0.own ≡ l.initial.visitor.seat.me.0.own;
  turns : l.initial.visitor.seat.me.0.turns ≤ l.visitor.seat.me.0.turns;
}
