use Rattle.std.proofs.Common.{◌∙◌, arith}
use Rattle.std.proofs.lemmas.Bool.Decides.{nat_tests}
use Rattle.clap.specs.Words.{found_of}
use Rattle.resil_words.proofs.CommandLineLaws.{callers-found, hold-found}
use Rattle.resil_words.proofs.command_line.run_options.Goals as goal

pub returns-clause-options : goal.returns-clause-options
returns-clause-options c =
    let is = callers-found (found_of c.args.matches.now) _ (c.in_ok-callers.ensures.none, c.in_ok-callers.ensures.value) in
    let hold = c.unwrap_or-hold.ensures ∙ hold-found (found_of c.args.matches.now) _ _ c.get_one-2.ensures.none c.get_one-2.ensures.value in
    rw hold (grind (arith, nat_tests, is))

pub returns-then-callers-eq0-clause-options : goal.returns-then-callers-eq0-clause-options
returns-then-callers-eq0-clause-options c =
    let is = callers-found (found_of c.args.matches.now) _ (c.in_ok-callers.ensures.none, c.in_ok-callers.ensures.value) in
    grind (arith, nat_tests, is, c.then-callers-eq0.either)

pub returns-in_err-callers-clause-options : goal.returns-in_err-callers-clause-options
returns-in_err-callers-clause-options c =
    let is = callers-found (found_of c.args.matches.now) _ (c.in_err-callers.ensures.none, c.in_err-callers.ensures.value) in
    grind (arith, nat_tests, is, c.from_residual.ensures)
