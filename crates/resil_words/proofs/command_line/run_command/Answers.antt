use Rattle.std.proofs.Common.{rules, ◌≡◌, ◌∙◌, Some, ap, ap₂, codes, pos}
use Rattle.std.proofs.lemmas.Result.{IfOk-weaker}
use Rattle.clap.specs.Words.{app_of, new_app, rule_of, with_rule}
use Rattle.clap.specs.Simple.{on_top}
use Rattle.clap.specs.declared.builder.value_parser.ValueParser.TheVariants as parser
use Rattle.resil_words.specs.CommandLine.{callers_option, hold_flag, shows_no_help}
use Rattle.resil_words.proofs.command_line.run_command.Goals as goal

pub returns-clause-app : goal.returns-clause-app
returns-clause-app c =
    let range_is : c.range.result ≡ parser.Signed (pos 1) (pos 64) = rw (c.value_parser.ensures, c.new-3.ensures.start, c.new-3.ensures.end) at c.range.ensures in
    let given = c.value_parser-2.ensures.given in
    let parser_is : c.value_parser-2.result.value_parser ≡ Some (parser.Signed (pos 1) (pos 64)) = given.1 ∙ ap Some (given.2 ∙ range_is) in
    let flag_is : rule_of c.action-hold.result ≡ hold_flag = search rules in
    let option_is : rule_of c.default_value-callers.result ≡ callers_option = search (rules, parser_is) in
    let start_is : app_of c.disable_help_flag.result ≡ on_top shows_no_help (new_app (codes "run")) = search rules in
    IfOk-weaker c.arg-2.result _ _
    (λ command added. added.shape (search rules) ∙ ap₂ with_rule (c.in_ok-arg.ensures.shape (search rules) ∙ ap₂ with_rule start_is flag_is) option_is) c.arg-2.ensures

pub returns-clause-globals : goal.returns-clause-globals
returns-clause-globals c = IfOk-weaker c.arg-2.result _ _ (λ command added. added.globals ∙ search rules) c.arg-2.ensures
