-- Each caller has the answers to its rows so far.
use Rattle.std.proofs.Common.{◌≡◌, ◌+◌, ◌<◌, ℕ, length, take, get_or}
use Rattle.resil_pool.specs.Parts.{CallerView}
use Rattle.resil_workers.specs.Batch.Submit.{AreCallers, plans_of, plans_on_receipts}
use Rattle.resil_workers.proofs.batch.submit.submit_in_order.Given as goal

abbrev pub invariant-loop-row : goal.invariant-loop-row
invariant-loop-row g l = record {
  number : length l.callers.items ≡ length l.initial.callers.items;
  callers : AreCallers l.pool.source l.callers.items;
  told : (place : ℕ) (d : CallerView) → place < length l.callers.items → plans_on_receipts (get_or l.callers.items place d) ≡ plans_of (take l.row-index l.rows) (place + 1);
}
