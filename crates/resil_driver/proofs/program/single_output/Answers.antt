use Rattle.resil_words.specs.declared.command_line.Request.TheVariants.{Single}
use Rattle.resil_heads.specs.declared.refusal.InputRefusal.TheVariants.{TooLong}
use Rattle.resil_driver.proofs.AnswerLaws.{refusal_answers}
use Rattle.resil_driver.proofs.program.single_output.Goals as goal

pub returns-in-Ok-TooLong-clause-output : goal.returns-in-Ok-TooLong-clause-output
returns-in-Ok-TooLong-clause-output g c =
    refusal_answers (Single c.args.single) _ TooLong c.too_long_output.result (rw c.in-Ok-TooLong.field-0-is at c.in-Ok-TooLong.ensures.input) c.too_long_output.ensures
