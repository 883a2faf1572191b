use Rattle.std.proofs.Common.{rules, ◌≡◌, ◌∙◌, ap, ap₂, codes}
use Rattle.std.proofs.lemmas.Result.{IfOk-weaker}
use Rattle.clap.specs.Words.{App, app_of, new_app, with_subcommand}
use Rattle.clap.specs.Simple.{on_top}
use Rattle.resil_words.specs.CommandLine.{asks_for_command}
use Rattle.resil_words.proofs.command_line.program.Goals as goal

pub returns : goal.returns
returns c =
    let start_is : app_of c.disable_help_subcommand.result ≡ on_top asks_for_command (new_app (codes "resil")) = search rules in
    let replay_is = c.in_ok-subcommand.ensures.shape (search rules) ∙ ap₂ with_subcommand start_is (ap (λ (a : App). a.top) c.new-2.ensures.app) in
    let audit_is = c.in_ok-subcommand-2.ensures.shape (search rules) ∙ ap₂ with_subcommand replay_is (ap (λ (a : App). a.top) c.new-3.ensures.app) in
    let chain_is = c.in_ok-subcommand-3.ensures.shape (search rules) ∙ ap₂ with_subcommand audit_is (ap (λ (a : App). a.top) c.new-4.ensures.app) in
    let weave_is = c.in_ok-subcommand-4.ensures.shape (search rules) ∙ ap₂ with_subcommand chain_is (ap (λ (a : App). a.top) c.new-5.ensures.app) in
    IfOk-weaker c.subcommand-5.result _ _
    (λ command added. added.shape c.in_ok-run.ensures.globals ∙ ap₂ with_subcommand weave_is (ap (λ (a : App). a.top) c.in_ok-run.ensures.app)) c.subcommand-5.ensures
