-- An end for each thread so far.
use Rattle.std.proofs.Common.{◌≡◌, ◌+◌, length, vec_capacity}
use Rattle.std.specs.Vec.Iter.{into_iter_items, into_iter_len}
use Rattle.resil_workers.proofs.batch.worker_threads.join_workers.Given as goal

abbrev pub invariant-loop-thread : goal.invariant-loop-thread
invariant-loop-thread g l = record {
  count : length l.ends.items + length (into_iter_items l.thread-iterator) ≡ length l.fn.threads.started.items;
  left : into_iter_len l.thread-iterator ≡ length (into_iter_items l.thread-iterator);
  room : vec_capacity l.ends ≡ vec_capacity l.initial.ends;
}
