use Rattle.std.proofs.Common.{refl, ◌∙◌}
use Rattle.std.proofs.lemmas.Option.{IfSome_then}
use Rattle.resil_words.specs.declared.command_line.Request.TheVariants.{Run}
use Rattle.resil_heads.specs.declared.refusal.InputRefusal.TheVariants.{TooLong}
use Rattle.resil_driver.specs.Answer.{IsAnswerOf}
use Rattle.resil_driver.proofs.AnswerLaws.{refusal_answers, run_stopped}
use Rattle.resil_driver.proofs.program.run_output.Goals as goal

pub returns-in-Ok-clause-output : goal.returns-in-Ok-clause-output
returns-in-Ok-clause-output g c =
    let whole = rw c.in-Ok-Whole.field-0-is at c.in-Ok-Whole.ensures.input in (
      _,
      refl,
      IfSome_then _ whole (λ bytes here.
          let text : IsAnswerOf (Run c.args.words) bytes c.in-Ok.text.items = (here.1, rw (c.deref.ensures.value ∙ here.0) at c.in-Ok.ensures) in text),
    )

pub returns-in-Err-clause-output : goal.returns-in-Err-clause-output
returns-in-Err-clause-output g c =
    run_stopped c.args.words _ c.in-Ok-Whole.bytes.items c.in-Err.error c.error_output.result (rw c.in-Ok-Whole.field-0-is at c.in-Ok-Whole.ensures.input) (rw c.deref.ensures.value at c.in-Err.ensures)
    c.error_output.ensures

pub returns-in-Ok-TooLong-clause-output : goal.returns-in-Ok-TooLong-clause-output
returns-in-Ok-TooLong-clause-output g c =
    refusal_answers (Run c.args.words) _ TooLong c.too_long_output.result (rw c.in-Ok-TooLong.field-0-is at c.in-Ok-TooLong.ensures.input) c.too_long_output.ensures
