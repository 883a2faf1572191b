use Rattle.std.proofs.Common.{◌∙◌, sym, refl, arith, rules}
use Rattle.resil_admission.specs.Words.{owed, with_sizes, Resized}
use Rattle.resil_rule.proofs.UnpickedLaws.{accepted-same}
use Rattle.resil_admission.proofs.MachineLaws.{machine-after, quiet-view}
use Rattle.resil_admission.proofs.machine.Machine.resize.Goals as goal

pub invariant_of-self-2 : goal.invariant_of-self-2
invariant_of-self-2 c =
    let kept = c.self.invariant in
    let v = c.self.inside.rule in
    let h = c.self.inside.history.events in
    let rule = c.in_ok-resize.ensures.event in
    let follows = rw rule at c.in_ok-resize.ensures.follows in
    let same = c.reserve.ensures.kept h refl in
    let room = c.write.ensures.room (owed v) (omega (arith, c.in_ok-reserve.ensures.room, c.owed.ensures.owed)) in
    rw rule (machine-after h (Resized c.args.core c.args.max) (with_sizes v c.args.core c.args.max) c.write.new.self c.self.inside.jobs kept.limits (follows h kept.state).1 (c.write.ensures.written h same) room
    (kept.accepted ∙ sym (accepted-same h (Resized c.args.core c.args.max) refl)) kept.unpicked)

pub returns-clause-event : goal.returns-clause-event
returns-clause-event c =
    rw (← c.self.view_is, c.in_ok-resize.ensures.event) (quiet-view c.self.inside.rule c.self.inside.history.events _ (Resized c.args.core c.args.max) c.self.inside.jobs.jobs refl (search rules))
