-- What comes back from the threads of a batch, and why a drained batch has no report.
use Rattle.std.specs.Prelude.{◌≡◌, ◌⊎◌, ℕ, Bool, true, false, List, length}
use Rattle.resil_rule.specs.Limits.{Sizes}
use Rattle.resil_rule.specs.History.{is_closed}
use Rattle.resil_admission.specs.MachineView.{MachineView, AllDone}
use Rattle.resil_pool.specs.declared.receipt.Receipt.{Receipt}
use Rattle.resil_pool.specs.declared.hold.JobRow.{JobRow}
use Rattle.resil_pool.specs.Lock.Turn.{PoolId}
use Rattle.resil_pool.specs.Parts.{CallerView, EndView}
use Rattle.resil_pool.specs.Draining.{HasRefused}
use Rattle.resil_pool.specs.Draining.Remaining.{LeftRefused}
use Rattle.resil_pool.specs.Draining.Report.{AreSubmissions}
use Rattle.resil_workers.specs.Batch.Submit.{AreCallers, ArePlansOf, ReceiptsMatchRows}

-- this many callers, each with receipts for its rows, and an end for each of this many workers
pub record IsFinishedBatch (rows : List JobRow) (source : PoolId) (count workers : ℕ) (sent : List CallerView) (left : List EndView) : Type 0 where
  pub callers : AreCallers source sent
  pub number : length sent ≡ count
  pub told : ReceiptsMatchRows rows sent
  pub ends : length left ≡ workers

-- A batch with a drained pool, with or without a report: all its rows were submitted. The machine was left closed, with a history in which the
-- submissions of each caller are those on its receipts, and the plans on these are those of its rows, in row order; each worker's end is there; and
-- each run that the drain made itself was accepted, or the machine was left with one that was refused
pub record DrainedBatch (sizes : Sizes) (callers : ℕ) (rows : List JobRow) : Type 0 where
  pub machine : MachineView
  pub receipts : List (List Receipt)
  pub ends : List EndView
  pub all_accepted : Bool
  pub limits : machine.limits ≡ sizes
  pub closed : is_closed machine.history ≡ true
  pub refused : all_accepted ≡ false → (taken : MachineView) × LeftRefused taken machine
  pub number : length receipts ≡ callers
  pub submissions : AreSubmissions machine.history receipts
  pub plans : ArePlansOf rows receipts
  pub workers : length ends ≡ sizes.max

-- it was drained, and a run was refused or an accepted job has no result
pub record HasStranger (sizes : Sizes) (callers : ℕ) (rows : List JobRow) : Type 0 where
  pub batch : DrainedBatch sizes callers rows
  pub cause : (batch.all_accepted ≡ false) ⊎ HasRefused batch.ends ⊎ ¬ AllDone batch.machine.jobs
