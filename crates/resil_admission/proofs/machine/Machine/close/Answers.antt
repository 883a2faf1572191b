use Rattle.std.proofs.Common.{◌∙◌, sym, refl, arith}
use Rattle.resil_admission.specs.Words.{owed, with_close, Close}
use Rattle.resil_rule.proofs.UnpickedLaws.{accepted-same}
use Rattle.resil_rule.proofs.OwedLaws.{close-owes}
use Rattle.resil_admission.proofs.MachineLaws.{machine-after}
use Rattle.resil_admission.proofs.machine.Machine.close.Goals as goal

pub invariant_of-self-2 : goal.invariant_of-self-2
invariant_of-self-2 c =
    let kept = c.self.invariant in
    let v = c.self.inside.rule in
    let h = c.self.inside.history.events in
    let still = c.close.ensures.closes.0 (rw c.if-not-close.false refl) in
    let rule = rw c.if-not-close.false at c.close.ensures.event in
    let follows = rw (c.if-not-close.false, rule) at c.close.ensures.follows in
    let room = c.write.ensures.room (owed (with_close v)) (omega (arith, close-owes v (with_close v) still refl, kept.room)) in
    rw rule (machine-after h Close (with_close v) c.write.new.self c.self.inside.jobs kept.limits (follows h kept.state).1 (c.write.ensures.written h refl) room
    (kept.accepted ∙ sym (accepted-same h Close refl)) kept.unpicked)
