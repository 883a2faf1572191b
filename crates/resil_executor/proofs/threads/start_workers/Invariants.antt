-- The closer has written nothing and hired at most one worker for each context so far, and each thread made its promise about this pool.
use Rattle.std.proofs.Common.{◌≡◌, ◌≤◌, ◌+◌, length, vec_capacity}
use Rattle.std.specs.Prelude.{All}
use Rattle.std.specs.Vec.Iter.{into_iter_items}
use Rattle.resil_executor.specs.Seats.{IsOf}
use Rattle.resil_executor.proofs.threads.start_workers.Given as goal

abbrev pub invariant-loop-context : goal.invariant-loop-context
invariant-loop-context g l = record {
  mine : IsOf l.pool l.closer.seat;
  own : l.closer.seat.me.0.own ≡ l.initial.closer.seat.me.0.own;
  hired : l.closer.seat.me.0.made + length (into_iter_items l.context-iterator) ≤ l.initial.closer.seat.me.0.made + length l.fn.contexts.items;
  room : vec_capacity l.threads ≡ vec_capacity l.initial.threads;
  promised : All (λ t. t.promise.pool.now ≡ l.pool) l.threads.items;
}
