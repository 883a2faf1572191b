-- Passes for each worker so far.
use Rattle.std.proofs.Common.{◌≡◌, length, vec_capacity}
use Rattle.std.specs.Prelude.{All}
use Rattle.std.specs.Vec.Iter.{into_iter_items, into_iter_len}
use Rattle.resil_decor.specs.Passes.{AreSplitFrom}
use Rattle.resil_workers.proofs.ThreadLaws.{HasOneForEach}
use Rattle.resil_workers.proofs.batch.worker_threads.prepare_workers.Given as goal

abbrev pub invariant-loop-worker : goal.invariant-loop-worker
invariant-loop-worker g l = record {
  each : HasOneForEach (into_iter_items l.worker-iterator) (into_iter_len l.worker-iterator) l.each.items (length l.fn.workers.items);
  room : vec_capacity l.each ≡ vec_capacity l.initial.each;
  sources : All (λ w. w.source ≡ l.pool.source) (into_iter_items l.worker-iterator);
  given : All (λ one. one.worker.source ≡ l.pool.source) l.each.items;
  passes : l.passes ≡ l.initial.passes;
  split : All (λ one. AreSplitFrom l.initial.passes one.passes) l.each.items;
}
