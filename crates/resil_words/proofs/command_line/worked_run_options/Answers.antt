use Rattle.std.proofs.Common.{refl}
use Rattle.clap.proofs.OnLiterals.{clap_on_literals}
use Rattle.resil_words.proofs.CommandLineLaws.{few_callers}
use Rattle.resil_words.proofs.command_line.worked_run_options.Goals as goal

pub returns-clause-examples : goal.returns-clause-examples
unfolding clap_on_literals
returns-clause-examples c = (refl, refl, refl, refl, refl, refl, refl, refl, refl, refl, refl, refl)

pub returns-clause-callers : goal.returns-clause-callers
returns-clause-callers c = few_callers
