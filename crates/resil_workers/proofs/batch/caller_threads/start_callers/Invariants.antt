-- A thread for each caller so far.
use Rattle.std.proofs.Common.{◌≡◌, ◌++◌, [], length, map, vec_capacity}
use Rattle.std.specs.Prelude.{All}
use Rattle.std.specs.Vec.Iter.{into_iter_items, into_iter_len}
use Rattle.resil_workers.specs.Batch.CallerThreads.{PromisesRowsOf}
use Rattle.resil_workers.proofs.ThreadLaws.{HasOneForEach}
use Rattle.resil_workers.proofs.batch.caller_threads.start_callers.Given as goal

abbrev pub invariant-loop-caller : goal.invariant-loop-caller
invariant-loop-caller g l = record {
  each : HasOneForEach (into_iter_items l.caller-iterator) (into_iter_len l.caller-iterator) l.threads.items (length l.fn.callers.items);
  room : vec_capacity l.threads ≡ vec_capacity l.initial.threads;
  callers : All (λ c. (c.source ≡ l.pool.source) × (c.receipts ≡ [])) (into_iter_items l.caller-iterator);
  sending : All (λ t. PromisesRowsOf l.rows l.pool.source t.promise.rows.now t.promise.caller.value) l.threads.items;
  numbers : map (λ t. t.promise.caller.value.number) l.threads.items ++ map (λ c. c.number) (into_iter_items l.caller-iterator) ≡ map (λ c. c.number) l.fn.callers.items;
}
