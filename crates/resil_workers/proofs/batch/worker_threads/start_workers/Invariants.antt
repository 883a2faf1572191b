-- A thread for each worker so far.
use Rattle.std.proofs.Common.{◌≡◌, length, vec_capacity}
use Rattle.std.specs.Prelude.{All}
use Rattle.std.specs.Vec.Iter.{into_iter_items, into_iter_len}
use Rattle.resil_workers.proofs.ThreadLaws.{HasOneForEach}
use Rattle.resil_workers.proofs.batch.worker_threads.start_workers.Given as goal

abbrev pub invariant-loop-ready : goal.invariant-loop-ready
invariant-loop-ready g l = record {
  each : HasOneForEach (into_iter_items l.ready-iterator) (into_iter_len l.ready-iterator) l.started.items (length l.fn.workers.each.items);
  room : vec_capacity l.started ≡ vec_capacity l.initial.started;
  sources : All (λ ready. ready.worker.source ≡ l.pool.source) (into_iter_items l.ready-iterator);
  closer : l.closer.source ≡ l.initial.closer.source;
  same : l.closer ≡ l.initial.closer;
}
