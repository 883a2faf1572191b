-- One worker, which has left the pool, for each thread so far.
use Rattle.std.proofs.Common.{◌≡◌, ◌+◌, length, vec_capacity}
use Rattle.std.specs.Prelude.{All}
use Rattle.std.specs.Vec.Iter.{into_iter_items, into_iter_len}
use Rattle.resil_executor.specs.Seats.{HasLeft}
use Rattle.resil_executor.proofs.threads.join_workers.Given as goal

abbrev pub invariant-loop-thread : goal.invariant-loop-thread
invariant-loop-thread g l = record {
  count : length l.workers.items + length (into_iter_items l.thread-iterator) ≡ length l.fn.crew.threads.items;
  left : into_iter_len l.thread-iterator ≡ length (into_iter_items l.thread-iterator);
  room : vec_capacity l.workers ≡ vec_capacity l.initial.workers;
  promised : All (λ t. t.promise.pool.now ≡ l._pool) (into_iter_items l.thread-iterator);
  each : All (λ worker. HasLeft l._pool g.W.ThreadWork.WasRunThere worker.seat) l.workers.items;
}
