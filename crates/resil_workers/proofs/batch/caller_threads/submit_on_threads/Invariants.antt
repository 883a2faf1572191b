-- The callers so far are back, and each has the answers to its rows.
use Rattle.std.proofs.Common.{◌≡◌, ◌++◌, false, length, map, vec_capacity}
use Rattle.std.specs.Prelude.{All}
use Rattle.std.specs.Vec.Iter.{into_iter_items, into_iter_len}
use Rattle.resil_workers.specs.Batch.Submit.{ReceiptsMatchRows}
use Rattle.resil_workers.specs.Batch.CallerThreads.{PromisesRowsOf}
use Rattle.resil_workers.proofs.ThreadLaws.{HasOneForEach}
use Rattle.resil_workers.proofs.batch.caller_threads.submit_on_threads.Given as goal

abbrev pub invariant-loop-thread : goal.invariant-loop-thread
invariant-loop-thread g l = record {
  each : HasOneForEach (into_iter_items l.thread-iterator) (into_iter_len l.thread-iterator) l.sent.items (length (into_iter_items l.initial.thread-iterator));
  room : vec_capacity l.sent ≡ vec_capacity l.initial.sent;
  sending : All (λ t. PromisesRowsOf l.batch.rows.now l.pool.source t.promise.rows.now t.promise.caller.value) (into_iter_items l.thread-iterator);
  sources : All (λ c. c.source ≡ l.pool.source) l.sent.items;
  numbers : map (λ c. c.number) l.sent.items ++ map (λ t. t.promise.caller.value.number) (into_iter_items l.thread-iterator) ≡ map (λ t. t.promise.caller.value.number) (into_iter_items l.initial.thread-iterator);
  told : l.out_of_memory ≡ false → ReceiptsMatchRows l.batch.rows.now l.sent.items;
}
