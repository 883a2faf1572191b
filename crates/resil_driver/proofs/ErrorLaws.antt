-- What an error of a run is to the command.
use Rattle.std.proofs.Common.{ℕ, List, Result}
use Rattle.resil_bulkhead.specs.Bulkhead.{BulkheadView}
use Rattle.resil_workers.specs.declared.batch.run.RunError.{RunError}
use Rattle.resil_pool.specs.declared.hold.JobRow.{JobRow}
use Rattle.resil_pool.specs.declared.draining.report.Report.{Report}
use Rattle.resil_driver.specs.Run.Head.{RunHeadView, run_head_of}
use Rattle.resil_input.specs.declared.csv_rows.BodyError.{BodyError}
use Rattle.resil_input.specs.declared.csv_rows.BodyError.TheVariants as body_error
use Rattle.resil_driver.specs.Run.Rows.{IsRunBodyError}
use Rattle.resil_heads.specs.CommandError.{from_body_error}
use Rattle.resil_heads.specs.Parts.{SplitsInto}
use Rattle.resil_words.specs.declared.command_line.RunOptions.{RunOptions}
use Rattle.resil_driver.specs.Run.{IsErrorFor}
use Rattle.resil_driver.specs.declared.run.runner.RunSettings.{RunSettings}

module _ (MayAnswer : RunSettings → List BulkheadView → List JobRow → Result Report RunError → Type 0) where
  -- what an error of the body is to the whole
  pub run-body-refused : (words : RunOptions) (input : List ℕ) (said : RunHeadView) (body : List ℕ) (e : BodyError) → SplitsInto run_head_of input said body
      → IsRunBodyError words.callers body e → IsErrorFor MayAnswer words input (from_body_error e)
  run-body-refused words input said body body_error.Memory parts bad = tt
  run-body-refused words input said body why parts bad = (said, body, parts, bad)
