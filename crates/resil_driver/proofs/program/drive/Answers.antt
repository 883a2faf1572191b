use Rattle.std.proofs.Common.{inl, inr, ◌∙◌}
use Rattle.std.proofs.lemmas.Bool.{or_right}
use Rattle.resil_driver.proofs.program.drive.Goals as goal

pub returns-in-Ok-Single-clause-failed : goal.returns-in-Ok-Single-clause-failed
returns-in-Ok-Single-clause-failed g c = λ is.
    elim (c.write_answer.ensures.failed is) [
      | inl unread ↦ inl (c.single_output-output.ensures.failed ∙ or_right _ _ unread)
      | inr unwritten ↦ inr unwritten
    ]
