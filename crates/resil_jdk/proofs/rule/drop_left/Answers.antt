use Rattle.std.proofs.Common.{rules}
use Rattle.std.proofs.lemmas.Fn.{filter_same}
use Rattle.resil_rule.specs.History.{is_among}
use Rattle.resil_jdk.proofs.LineLaws.{kept-same}
use Rattle.resil_jdk.proofs.rule.drop_left.Goals as goal

pub returns-then-len : goal.returns-then-len
returns-then-len c =
    let kept = filter_same _ (λ id. is_among id c.args.waits.now) _ (λ x b f' k. search rules) _ _ c.retain.ensures.filtered in
    rw kept (kept-same c.args.waits.now c.args.line.now.items)
