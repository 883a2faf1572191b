-- The caller has the answers to its rows so far.
use Rattle.std.proofs.Common.{◌≡◌, ◌++◌, take}
use Rattle.resil_pool.specs.Parts.{IsSameCaller}
use Rattle.resil_workers.specs.Batch.Submit.{plans_of, plans_on_receipts}
use Rattle.resil_workers.proofs.batch.submit.submit_own.Given as goal

abbrev pub invariant-loop-row : goal.invariant-loop-row
invariant-loop-row g l = record {
  same : IsSameCaller l.initial.caller l.caller;
  told : plans_on_receipts l.caller ≡ plans_on_receipts l.initial.caller ++ plans_of (take l.row-index l.rows) l.initial.caller.number;
}
