use Rattle.std.proofs.Common.{ap, ◌≡◌, ◌≤◌, inl, inr, ◌∙◌, true, sym, refl, arith, rules}
use Rattle.resil_admission.specs.Words.{owed, with_pick, with_take, Id, Take}
use Rattle.resil_rule.proofs.UnpickedLaws.{accepted-same}
use Rattle.resil_rule.proofs.OwedLaws.{pick-owes, take-owes}
use Rattle.resil_admission.specs.JobsInvariant.{unpicked_in}
use Rattle.resil_admission.specs.MachineInvariant.{times_unpicked}
use Rattle.resil_admission.specs.MachineView.{ids_of}
use Rattle.resil_admission.proofs.MachineLaws.{machine-after, left-picked, left-taken, own-picked, queue-picked}
use Rattle.resil_admission.proofs.machine.Machine.pick.Goals as goal

pub invariant_of-self-in-OwnStart : goal.invariant_of-self-in-OwnStart
invariant_of-self-in-OwnStart c =
    let kept = c.self.invariant in
    let v = c.self.inside.rule in
    let h = c.self.inside.history.events in
    let p = c.in_ok-slot.field-0 in
    let told = c.in_ok-slot.ensures.picked in
    elim told.1 [
      | inl own ↦
          (let still : (x : Id) → 1 ≤ times_unpicked (with_pick v p.slot) x → unpicked_in c.pick-2.new.self.kept x ≡ true = λ x some.
          let before = left-picked v h kept.state p.slot p.work own.1 x some in
          c.pick-2.ensures.others x before.0 ∙ kept.unpicked x before.1 in
          rw own.2 (record {
            limits = kept.limits;
            state = rw own.2 at own.3 h kept.state;
            room = omega (arith, pick-owes v (with_pick v p.slot) p.slot p.work told.0 own.1 refl, kept.room);
            accepted = ap ids_of c.pick-2.ensures.jobs ∙ kept.accepted;
            unpicked = still;
          }))
      | inr taken ↦ absurd (cc (taken.0, c.in-OwnStart.is))
    ]

pub invariant_of-self-in-Queue : goal.invariant_of-self-in-Queue
invariant_of-self-in-Queue c =
    let kept = c.self.invariant in
    let v = c.self.inside.rule in
    let h = c.self.inside.history.events in
    let p = c.in_ok-slot.field-0 in
    let told = c.in_ok-slot.ensures.picked in
    elim told.1 [
      | inl own ↦ absurd (cc (own.0, c.in-Queue.is))
      | inr taken ↦
          (let rule = taken.3 in
          let follows = rw rule at taken.4 in
          let room = c.write.ensures.room (owed (with_take v p.slot)) (omega (arith, take-owes v (with_take v p.slot) p.slot p.work told.0 taken.2 refl, kept.room)) in
          let still : (x : Id) → 1 ≤ times_unpicked (with_take v p.slot) x → unpicked_in c.pick-2.new.self.kept x ≡ true = λ x some.
          let before = left-taken v h kept.state p.slot p.work taken.2 x some in
          c.pick-2.ensures.others x before.0 ∙ kept.unpicked x before.1 in
          rw rule (machine-after h (Take p.slot.id) (with_take v p.slot) c.write.new.self c.pick-2.new.self kept.limits (follows h kept.state).1 (c.write.ensures.written h refl) room
          (ap ids_of c.pick-2.ensures.jobs ∙ kept.accepted ∙ sym (accepted-same h (Take p.slot.id) refl)) still))
    ]

pub returns-in-OwnStart-clause-picked : goal.returns-in-OwnStart-clause-picked
returns-in-OwnStart-clause-picked c =
    let v = c.self.inside.rule in
    let p = c.in_ok-slot.field-0 in
    let told = c.in_ok-slot.ensures.picked in
    elim told.1 [
      | inl own ↦ rw (← c.self.view_is, own.2, c.pick-2.ensures.jobs) (own-picked v c.self.inside.history.events c.self.invariant.state c.self.inside.jobs.jobs p.slot p.work own.1)
      | inr taken ↦ absurd (cc (taken.0, c.in-OwnStart.is))
    ]

pub returns-in-Queue-clause-picked : goal.returns-in-Queue-clause-picked
returns-in-Queue-clause-picked c =
    let v = c.self.inside.rule in
    let h = c.self.inside.history.events in
    let p = c.in_ok-slot.field-0 in
    let told = c.in_ok-slot.ensures.picked in
    elim told.1 [
      | inl own ↦ absurd (cc (own.0, c.in-Queue.is))
      | inr taken ↦ rw (← c.self.view_is, taken.3, c.pick-2.ensures.jobs) (queue-picked v h c.self.invariant.state c.self.inside.jobs.jobs p.slot _ taken.1 (taken.4 h c.self.invariant.state).0 (search rules))
    ]
