-- What the thread of a caller gets, and what it returns.
use Rattle.std.specs.Prelude.{◌≡◌, ◌++◌, List, [], OnOk}
use Rattle.resil_pool.specs.declared.hold.JobRow.{JobRow}
use Rattle.resil_workers.specs.declared.batch.submit.Submitted.{Submitted}
use Rattle.resil_pool.specs.Lock.Turn.{PoolId}
use Rattle.resil_pool.specs.Parts.{CallerView, IsSameCaller}
use Rattle.resil_workers.specs.Batch.Submit.{plans_of, plans_on_receipts}

-- it is the same caller, with a receipt for each of its rows, in row order, after those that it had
pub record HasSubmitted (rows : List JobRow) (caller : CallerView) (sent : Submitted) : Type 0 where
  pub same : IsSameCaller caller sent.caller
  pub told : OnOk sent.outcome (plans_on_receipts sent.caller ≡ plans_on_receipts caller ++ plans_of rows caller.number)

-- a caller of this pool, which has submitted nothing yet, sends these rows
pub record PromisesRowsOf (rows : List JobRow) (source : PoolId) (given : List JobRow) (caller : CallerView) : Type 0 where
  pub same : given ≡ rows
  pub from : caller.source ≡ source
  pub new : caller.receipts ≡ []
