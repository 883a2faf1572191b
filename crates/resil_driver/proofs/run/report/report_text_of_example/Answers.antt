use Rattle.std.proofs.Common.{refl}
use Rattle.std.specs.Fmt.{digits}
use Rattle.resil_driver.proofs.run.report.report_text_of_example.Goals as goal

pub returns : goal.returns
unfolding digits
returns c = λ plan. refl
