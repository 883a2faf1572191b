use Rattle.std.proofs.Common.{◌≡◌, ◌∙◌, true, Some, slice_get, rules}
use Rattle.resil_jdk.proofs.LineLaws.{those, front-waits}
use Rattle.resil_jdk.proofs.rule.JdkRule.take.Goals as goal

pub returns-clause-left : goal.returns-clause-left
returns-clause-left c =
    let front : slice_get (those c.self.inside.waits c.self.inside.line.items) 0 ≡ Some c.args.id = search rules in
    let had : c.remove.result ≡ true = c.remove.ensures.had ∙ front-waits c.self.inside.waits c.self.inside.line.items c.args.id front in
    rw (← c.self.view_is) (rw had at c.remove.ensures.less)
