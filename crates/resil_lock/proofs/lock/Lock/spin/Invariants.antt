-- A lost exchange changes nothing.
use Rattle.std.proofs.Common.{◌≡◌}
use Rattle.resil_lock.proofs.lock.Lock.spin.Given as goal

abbrev pub invariant-loop : goal.invariant-loop
invariant-loop g l = record {
  iterator : (goal.iterator-loop g).can_next l.iterator' × (goal.iterator-loop g).is_finite l.iterator';
  table : l.seat.table_id ≡ l.initial.seat.table_id;
  same : l.seat.me ≡ l.initial.seat.me;
}
