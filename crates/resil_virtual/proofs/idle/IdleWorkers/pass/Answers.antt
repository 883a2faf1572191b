use Rattle.resil_virtual.proofs.Words.{◌≡◌, ◌∙◌, map, sym, subst, passed, IdleView}
use Rattle.resil_virtual.proofs.IdleLaws.{nothing-over}
use Rattle.resil_virtual.proofs.idle.IdleWorkers.pass.Goals as goal

pub returns-then-not-changes : goal.returns-then-not-changes
returns-then-not-changes c =
    let idle = c.self.inside.items.items in let first = c.self.inside.first in
    subst (λ (v : IdleView). v.items ≡ map (passed c.args.none_waits c.args.at) v.items) c.self.view_is
    (sym (nothing-over c.args.none_waits c.args.at idle first.end first.look c.self.invariant (sym c.changes.ensures ∙ c.if-not-changes.true)))
