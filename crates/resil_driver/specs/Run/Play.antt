-- Which reports the jobs of a `run` may have, and which errors.
use Rattle.std.specs.Prelude.{ℕ, ◌≡◌, ◌≤◌, ◌⊎◌, List, Result, Ok, Err, All, IsTrue, length, map}
use Rattle.resil_rule.specs.Admission.{IsLegal}
use Rattle.resil_rule.specs.declared.event.Event.{Event}
use Rattle.resil_admission.specs.declared.row.Row.{Row}
use Rattle.resil_bulkhead.specs.Bulkhead.{BulkheadView}
use Rattle.resil_decor.specs.Grants.{IsWithin}
use Rattle.resil_decor.specs.declared.layer.Layer.{Layer}
use Rattle.resil_driver.specs.Run.Head.{RunHeadView}
use Rattle.resil_pool.specs.Draining.Report.{AreCollected, AreSubmissions}
use Rattle.resil_pool.specs.Lock.LoggedEvent.{NamesCaller}
use Rattle.resil_pool.specs.Hold.{BeginsWithRows}
use Rattle.resil_workers.specs.Batch.Submit.{ArePlansOf}
use Rattle.resil_workers.specs.Batch.Run.{HasStranger}
use Rattle.resil_pool.specs.declared.receipt.Receipt.{Receipt}
use Rattle.resil_pool.specs.declared.hold.JobRow.{JobRow}
use Rattle.resil_workers.specs.declared.batch.run.RunError.{RunError}
use Rattle.resil_workers.specs.declared.batch.run.RunError.TheVariants as run_error
use Rattle.resil_pool.specs.declared.draining.report.Report.{Report}
use Rattle.resil_driver.specs.declared.run.rows.ScriptedJob.{ScriptedJob}
use Rattle.resil_driver.specs.Run.Bulkheads.{AreMadeFrom}
use Rattle.resil_words.specs.declared.command_line.RunOptions.{RunOptions}
use Rattle.resil_heads.specs.declared.command_error.CommandError.{CommandError}
use Rattle.resil_heads.specs.declared.command_error.CommandError.TheVariants as error
use Rattle.resil_heads.specs.declared.refusal.InputRefusal.TheVariants as refusal
use Rattle.resil_heads.specs.declared.refusal.RunRefusal.TheVariants as run
use Rattle.resil_driver.specs.declared.run.runner.RunSettings.{RunSettings}

-- the settings that a head and the words give: the sizes and the keep-alive come from the head, and the number of
-- callers and the flag from the words
abbrev pub run_settings : RunHeadView → RunOptions → RunSettings
run_settings said words = record {
  config = record { limits = said.limits; keep_alive = said.keep_alive; callers = words.callers };
  hold = words.hold;
}

-- a job of one of these callers, numbered from 1
abbrev pub IsOfCaller : ℕ → ScriptedJob → Type 0
IsOfCaller callers job = (1 ≤ job.caller) × (job.caller ≤ callers)

-- the row of a job: its caller, and the layers around its script
abbrev pub row_for_job : List Layer → ScriptedJob → JobRow
row_for_job layers job = record { caller = job.caller; plan = record { layers = layers; script = job.script } }

-- What a pool of these settings reports of these rows once it is drained: a history, the receipts of each caller, and
-- the results. The history is legal; for each caller its submissions are those of its receipts, and nobody else submits;
-- each accepted job has its result once, in order of acceptance; and the plans on each caller's receipts are those of
-- its rows, in the order of the rows. With hold the history begins with the submissions of all rows, in the order of the
-- rows, and the closing. Without it, any legal history is possible.
pub record IsPoolReport (settings : RunSettings) (rows : List JobRow) (history : List Event) (receipts : List (List Receipt)) (results : List Row) : Type 0 where
  pub one_legal_history : IsLegal settings.config.limits history
  pub each_callers_submissions : AreSubmissions history receipts
  pub all_callers : length receipts ≡ settings.config.callers
  pub no_others : All (NamesCaller settings.config.callers) history
  pub collected_exactly_once : AreCollected history receipts results
  pub plans : ArePlansOf rows receipts
  pub held : IsTrue settings.hold → BeginsWithRows rows history

-- no job was ever granted more permits of one of these bulkheads at once than the bulkhead has
pub record AreWithin (bulkheads : List BulkheadView) (results : List Row) : Type 0 where
  pub each : All (λ row. IsWithin bulkheads row.run) results

-- A report of these rows by these settings: that of their pool, in which no job was ever granted more permits of a
-- bulkhead of the run at once than the bulkhead has.
pub record IsReport (settings : RunSettings) (bulkheads : List BulkheadView) (rows : List JobRow) (history : List Event) (receipts : List (List Receipt)) (results : List Row) : Type 0 where
  pub pool : IsPoolReport settings rows history receipts results
  pub granted : AreWithin bulkheads results

-- their pool was drained, and a job of its report was granted more permits of a bulkhead at once than the bulkhead has
pub record HasGrantedMore (settings : RunSettings) (bulkheads : List BulkheadView) (rows : List JobRow) : Type 0 where
  pub report : Report
  pub pool : IsPoolReport settings rows report.history.items (map (λ own. own.items) report.receipts.items) report.results.items
  pub more : ¬ AreWithin bulkheads report.results.items

-- Why a run on threads has no report. As a stranger: what a drain found, or answers that the bulkheads can't have given.
-- As receipts that differ, only with hold: the rows aren't in their order.
abbrev pub MayRefuseOnThreads : RunSettings → List BulkheadView → List JobRow → RunError → Type 0
MayRefuseOnThreads settings bulkheads rows run_error.Stranger = HasStranger settings.config.limits settings.config.callers rows ⊎ HasGrantedMore settings bulkheads rows
MayRefuseOnThreads settings bulkheads rows run_error.ReceiptsDiffer = IsTrue settings.hold
MayRefuseOnThreads settings bulkheads rows run_error.TooManyCallers = Unit {0}
MayRefuseOnThreads settings bulkheads rows run_error.BadCaller = Unit {0}
MayRefuseOnThreads settings bulkheads rows run_error.Memory = Unit {0}
MayRefuseOnThreads settings bulkheads rows run_error.NoThread = Unit {0}

-- What a run on threads may return: a report, or, if the pool has a worker, an error with its reason. It says nothing of
-- the keep-alive.
abbrev pub MayAnswerOnThreads : RunSettings → List BulkheadView → List JobRow → Result Report RunError → Type 0
MayAnswerOnThreads settings bulkheads rows (Ok report) = IsReport settings bulkheads rows report.history.items (map (λ own. own.items) report.receipts.items) report.results.items
MayAnswerOnThreads settings bulkheads rows (Err why) = (1 ≤ settings.config.limits.max) × MayRefuseOnThreads settings bulkheads rows why

-- A run of these jobs, as a head and the words say, returns this: its settings are theirs, it has a bulkhead for each id
-- of the head, and its rows are the jobs, each under the layers of the head. What such a run may return is given.
abbrev pub HasPlayed : (RunSettings → List BulkheadView → List JobRow → Result Report RunError → Type 0) → RunHeadView → RunOptions → List ScriptedJob → Result Report RunError → Type 0
HasPlayed MayAnswer said words jobs answer = (bulkheads : List BulkheadView) × AreMadeFrom said.bulkheads bulkheads
    × MayAnswer (run_settings said words) bulkheads (map (row_for_job said.layers) jobs) answer

-- the error of the command for an error of a run; the first two never come, since a run has at most
-- 64 callers and its rows name them
abbrev pub from_run_error : RunError → CommandError
from_run_error run_error.TooManyCallers = error.Memory
from_run_error run_error.BadCaller = error.Memory
from_run_error run_error.Memory = error.Memory
from_run_error run_error.NoThread = error.NoThread
from_run_error run_error.Stranger = error.Refused (refusal.Run run.Stranger)
from_run_error run_error.ReceiptsDiffer = error.Refused (refusal.Run run.ReceiptsDiffer)

-- an error of running the jobs: memory, or that of a run that returned it
abbrev pub IsPlayError : (Result Report RunError → Type 0) → CommandError → Type 0
IsPlayError HasAnswered error.Memory = Unit {0}
IsPlayError HasAnswered error.NoThread = HasAnswered (Err run_error.NoThread)
IsPlayError HasAnswered (error.Refused (refusal.Run run.Stranger)) = HasAnswered (Err run_error.Stranger)
IsPlayError HasAnswered (error.Refused (refusal.Run run.ReceiptsDiffer)) = HasAnswered (Err run_error.ReceiptsDiffer)
IsPlayError HasAnswered (error.Refused _) = ⊥
