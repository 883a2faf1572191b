use Rattle.std.proofs.Common.{◌∙◌, sym, refl, arith}
use Rattle.resil_admission.specs.Words.{owed, with_idle_end, IdleEnd}
use Rattle.resil_rule.proofs.UnpickedLaws.{accepted-same}
use Rattle.resil_rule.proofs.OwedLaws.{idle-owes}
use Rattle.resil_admission.proofs.MachineLaws.{machine-after}
use Rattle.resil_admission.proofs.machine.Machine.idle_end.Goals as goal

pub invariant_of-self-2 : goal.invariant_of-self-2
invariant_of-self-2 c =
    let kept = c.self.invariant in
    let v = c.self.inside.rule in
    let h = c.self.inside.history.events in
    let may = c.idle_end.ensures.ends.0 (rw c.if-not-idle_end.false refl) in
    let rule = rw c.if-not-idle_end.false at c.idle_end.ensures.event in
    let follows = rw (c.if-not-idle_end.false, rule) at c.idle_end.ensures.follows in
    let room = c.write.ensures.room (owed (with_idle_end v)) (omega (arith, idle-owes v (with_idle_end v) may refl, kept.room)) in
    rw rule (machine-after h IdleEnd (with_idle_end v) c.write.new.self c.self.inside.jobs kept.limits (follows h kept.state).1 (c.write.ensures.written h refl) room
    (kept.accepted ∙ sym (accepted-same h IdleEnd refl)) kept.unpicked)
