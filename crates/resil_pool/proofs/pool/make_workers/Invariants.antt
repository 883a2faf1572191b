-- So many workers are made.
use Rattle.std.proofs.Common.{◌≡◌, [], replicate}
use Rattle.std.specs.Prelude.{vec_capacity}
use Rattle.resil_pool.specs.Lock.{closer_view, pool_id}
use Rattle.resil_pool.specs.Parts.{new_worker}
use Rattle.resil_pool.proofs.pool.make_workers.Given as goal

abbrev pub invariant-loop : goal.invariant-loop
invariant-loop l = record {
  table : l.closer.table_id ≡ l.initial.closer.table_id;
  closer : l.closer.me ≡ (closer_view l.lock.table.shared.key l.closer.me.0.made, []);
  workers : l.workers.items ≡ replicate l.counter (new_worker (pool_id l.lock.table.shared.table_id l.lock.table.shared.key));
  room : vec_capacity l.workers ≡ vec_capacity l.initial.workers;
}
