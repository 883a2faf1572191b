-- So many callers are made, and the closer's seat knows it.
use Rattle.std.proofs.Common.{◌≡◌, ◌+◌, [], length}
use Rattle.std.specs.Prelude.{vec_capacity}
use Rattle.resil_pool.specs.Lock.{closer_view, pool_id}
use Rattle.resil_pool.specs.Parts.{new_callers}
use Rattle.resil_pool.proofs.pool.make_callers.Given as goal

abbrev pub invariant-loop-made : goal.invariant-loop-made
invariant-loop-made l = record {
  table : l.closer.table_id ≡ l.initial.closer.table_id;
  closer : l.closer.me ≡ (closer_view l.lock.table.shared.key (1 + l.made), []);
  callers : l.callers.items ≡ new_callers (pool_id l.lock.table.shared.table_id l.lock.table.shared.key) l.made;
  count : length l.callers.items ≡ l.made;
  room : vec_capacity l.callers ≡ vec_capacity l.initial.callers;
}
