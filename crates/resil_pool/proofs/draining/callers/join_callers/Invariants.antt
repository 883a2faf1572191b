-- So many callers are out, in order, and the closer holds the turn as before.
use Rattle.std.proofs.Common.{◌≡◌, length, map}
use Rattle.std.specs.Prelude.{All, vec_capacity}
use Rattle.resil_pool.proofs.JoinedCallers.{SoFar}
use Rattle.resil_pool.proofs.draining.callers.join_callers.Given as goal

abbrev pub invariant-loop-below : goal.invariant-loop-below
invariant-loop-below l = record {
  table : l.closer.table_id ≡ l.initial.closer.table_id;
  same : l.closer.me ≡ l.initial.closer.me;
  sources : All (λ c. c.source.table_id ≡ l.lock.table.shared.table_id) l.callers.items;
  count : length l.receipts.items ≡ l.below;
  room : vec_capacity l.receipts ≡ vec_capacity l.initial.receipts;
  so_far : SoFar l.initial.callers.items l.callers.items l.below l.initial.closer.me.0.seen (map (λ own. own.items) l.receipts.items);
}
