-- A job that is out is ended, and its run is kept.
use Rattle.std.proofs.Common.{◌≡◌, ◌≤◌, ◌∙◌, true, false, sym, ap, subst, refl, arith}
use Rattle.resil_admission.specs.Words.{is_same_id, owed, with_finish, Follows, Id, Finish}
use Rattle.resil_rule.proofs.OwedLaws.{finish-owes}
use Rattle.resil_rule.proofs.RefusalLaws.{out-are}
use Rattle.resil_rule.proofs.UnpickedLaws.{accepted-same}
use Rattle.resil_admission.specs.MachineView.{ids_of}
use Rattle.resil_admission.specs.JobsInvariant.{unpicked_in}
use Rattle.resil_admission.specs.MachineInvariant.{times_unpicked}
use Rattle.resil_admission.proofs.JobLaws.{ids-with_run, nowhere}
use Rattle.resil_admission.proofs.MachineLaws.{machine-after, out-picked, nothing, is-nothing, found-at, found-out, found-known}
use Rattle.resil_admission.proofs.machine.Machine.finish_picked.Goals as goal

pub returns-in_default-clause-refused : goal.returns-in_default-clause-refused
returns-in_default-clause-refused c =
    let none = nothing c.find.result c.in_default.not-Some c.find.ensures.none in
    rw (← c.self.view_is) (sym (out-are c.self.inside.rule c.self.inside.history.events c.self.invariant.state c.args.id) ∙ none)

pub returns-in_default-clause-out : goal.returns-in_default-clause-out
returns-in_default-clause-out c = let bars = returns-in_default-clause-refused c in ((λ ok. absurd (cc ok)), (λ known. absurd (cc (known.0, bars))))

pub unreachable-requires : goal.unreachable-requires
unreachable-requires c =
    let none = nowhere c.args.id (ids_of c.self.inside.jobs.jobs) (sym c.index_of.ensures ∙ is-nothing c.index_of.result c.in_default-index_of.not-Some) in
    absurd (cc (none, (found-known c.self.inside.rule c.self.inside.history.events c.self.invariant.state c.in-Some.slot c.args.id c.in-Some.ensures.found c.self.inside.jobs.jobs c.self.invariant.accepted)))

pub invariant_of-self : goal.invariant_of-self
invariant_of-self c =
    let kept = c.self.invariant in
    let v = c.self.inside.rule in
    let h = c.self.inside.history.events in
    let slot = c.in-Some.slot in
    let id = c.args.id in
    let jobs = c.self.inside.jobs.jobs in
    let yes = c.finish.ensures.out.1 (found-at c.self.inside.rule c.self.inside.history.events c.self.invariant.state c.in-Some.slot c.args.id c.in-Some.ensures.found) in
    let rule = rw yes at c.finish.ensures.event in
    let follows = subst (λ (id : Id). Follows v (Finish id) (with_finish v slot)) c.in-Some.ensures.found.0 (rw (yes, rule) at c.finish.ensures.follows) in
    let room = c.write.ensures.room (owed (with_finish v slot)) (omega (arith, finish-owes v (with_finish v slot) slot (found-at c.self.inside.rule c.self.inside.history.events c.self.invariant.state c.in-Some.slot c.args.id c.in-Some.ensures.found) refl, kept.room)) in
    let ran = c.record_run.ensures.jobs in
    let others : (x : Id) → 1 ≤ times_unpicked v x → unpicked_in c.record_run.new.self.kept x ≡ true = λ x some.
    let other = subst (λ (id : Id). is_same_id x id ≡ false) c.in-Some.ensures.found.0 (out-picked v h kept.state slot (found-at v h kept.state slot id c.in-Some.ensures.found) x some) in
    c.record_run.ensures.others x other ∙ kept.unpicked x some in
    rw rule (machine-after h (Finish id) (with_finish v slot) c.write.new.self c.record_run.new.self kept.limits (follows h kept.state).1 (c.write.ensures.written h refl) room
    (ap ids_of ran ∙ ids-with_run jobs id c.args.run ∙ kept.accepted ∙ sym (accepted-same h (Finish id) refl)) others)

pub returns-clause-out : goal.returns-clause-out
returns-clause-out c =
    ((λ _. (rw (← c.self.view_is) (found-out c.self.inside.rule c.self.inside.history.events c.self.invariant.state c.in-Some.slot c.args.id c.in-Some.ensures.found), c.requires)), (λ _. refl))
