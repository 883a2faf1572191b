use Rattle.std.proofs.Common.{◌≡◌, map, rules, true, ◌∙◌}
use Rattle.resil_words.proofs.CommandLineLaws.{clap_request-is, request_of-refused}
use Rattle.resil_words.proofs.command_line.parse_args.Goals as goal

pub returns-in-Ok-try_get_matches_from-clause-request : goal.returns-in-Ok-try_get_matches_from-clause-request
returns-in-Ok-try_get_matches_from-clause-request c =
    rw (← clap_request-is (map (λ word. word.now) c.args.words.now)) (search rules)

pub returns-in-Ok-try_get_matches_from-clause-usage : goal.returns-in-Ok-try_get_matches_from-clause-usage
returns-in-Ok-try_get_matches_from-clause-usage c =
    rw (← clap_request-is (map (λ word. word.now) c.args.words.now)) (search rules)

pub returns-clause-usage : goal.returns-clause-usage
returns-clause-usage c = λ usage. request_of-refused _ _ c.in-Err.error c.in-Ok.ensures c.in-Err.ensures.kinds (λ memory.
    let same = rw (c.kind.ensures ∙ memory) at c.eq.ensures in
    let met : c.eq.result ≡ true = same in
    cc (met, c.if-eq.false))
