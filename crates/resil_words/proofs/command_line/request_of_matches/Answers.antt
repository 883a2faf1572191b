use Rattle.std.proofs.Common.{rules, tests, ◌≡◌, ◌∙◌, Some, ap, sym, option_and_then}
use Rattle.clap.specs.Words.{found_of, rows_of, subcommand_rows_of}
use Rattle.resil_words.specs.CommandLine.{request_of_match}
use Rattle.resil_words.proofs.CommandLineLaws.{met_both, name_met}
use Rattle.resil_words.proofs.command_line.request_of_matches.Goals as goal

pub returns-in_default-clause-request : goal.returns-in_default-clause-request
returns-in_default-clause-request c =
    let command = c.in_ok-command.command.now in
    let rows = rows_of (found_of c.in_ok-command.options.now) in
    let met : subcommand_rows_of c.args.matches.now ≡ Some (command, rows) = met_both (subcommand_rows_of c.args.matches.now) command rows (c.in_ok-command.ensures.name ∙ name_met c.args.matches.now) c.in_ok-command.ensures.rows in
    (search (rules, tests)) ∙ sym (ap (option_and_then request_of_match) met)
