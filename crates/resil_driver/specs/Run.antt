-- Which texts `run` may write for an input, and which errors an input may have.
pub mod Bulkheads
pub mod Head
pub mod Play
pub mod Report
pub mod Rows
pub mod WorkedHeads
use Rattle.std.specs.Prelude.{ℕ, ◌≡◌, List, Result, Ok, Err}
use Rattle.resil_bulkhead.specs.Bulkhead.{BulkheadView}
use Rattle.resil_workers.specs.declared.batch.run.RunError.{RunError}
use Rattle.resil_workers.specs.declared.batch.run.RunError.TheVariants as run_error
use Rattle.resil_pool.specs.declared.hold.JobRow.{JobRow}
use Rattle.resil_pool.specs.declared.draining.report.Report.{Report as PoolReport}
use Rattle.resil_driver.specs.Run.Head.{RunHeadView, run_head_of}
use Rattle.resil_driver.specs.Run.Rows.{IsRunBody, IsRunBodyError}
use Rattle.resil_driver.specs.declared.run.rows.ScriptedJob.{ScriptedJob}
use Rattle.resil_driver.specs.Run.Report.{report_text}
use Rattle.resil_heads.specs.CommandError.{IsRunError}
use Rattle.resil_heads.specs.Parts.{SplitsInto, IsPartRefusal}
use Rattle.resil_heads.specs.declared.command_error.CommandError.{CommandError}
use Rattle.resil_driver.specs.Run.Play.{HasPlayed}
use Rattle.resil_words.specs.declared.command_line.RunOptions.{RunOptions}
use Rattle.resil_heads.specs.declared.refusal.InputRefusal.{InputRefusal}
use Rattle.resil_heads.specs.declared.refusal.InputRefusal.TheVariants as refusal
use Rattle.resil_heads.specs.declared.refusal.RunRefusal.TheVariants as run
use Rattle.resil_driver.specs.declared.run.runner.RunSettings.{RunSettings}

-- all of these are given what a run with these settings, with these bulkheads and of these rows may return
module _ (MayAnswer : RunSettings → List BulkheadView → List JobRow → Result PoolReport RunError → Type 0) where
  -- The input splits into a head and a body of jobs, neither of which is refused, and a run of these
  -- jobs, as the head and the words say, returns this.
  abbrev pub HasRun : RunOptions → List ℕ → Result PoolReport RunError → Type 0
  HasRun words input answer = (said : RunHeadView) × (body : List ℕ) × (jobs : List ScriptedJob)
      × SplitsInto run_head_of input said body × IsRunBody words.callers body jobs × HasPlayed MayAnswer said words jobs answer

  -- The text is that of the history and the results of a report of the run. Threads may run in any
  -- order, so there may be many such texts.
  abbrev pub IsRunText : RunOptions → List ℕ → List ℕ → Type 0
  IsRunText words input text = (report : PoolReport) × HasRun words input (Ok report) × (text ≡ report_text report.history.items report.results.items)

  -- The refusal of the first step that refuses the input: its parts, its head, its body. Once the
  -- rows are read, the run may be refused instead of a report.
  abbrev pub IsRunRefusal : RunOptions → List ℕ → InputRefusal → Type 0
  IsRunRefusal words input (refusal.Run run.Stranger) = HasRun words input (Err run_error.Stranger)
  IsRunRefusal words input (refusal.Run run.ReceiptsDiffer) = HasRun words input (Err run_error.ReceiptsDiffer)
  IsRunRefusal words input why = IsPartRefusal run_head_of (IsRunBodyError words.callers) input why

  -- an error of the command: memory, a thread that can't be started if a run returned that, or a refusal
  abbrev pub IsErrorFor : RunOptions → List ℕ → CommandError → Type 0
  IsErrorFor words input = IsRunError (HasRun words input (Err run_error.NoThread)) (IsRunRefusal words input)
