use Rattle.std.proofs.Common.{inl, inr, ◌≡◌, ◌≤◌, ◌+◌, ◌++◌, ◌∷◌, [], ◌∙◌, suc, List, None, true, false, sym, ap, refl, arith}
use Rattle.resil_admission.specs.Words.{is_among, RuleView, made_by, next_reply, is_acceptance, counted, with_submission, owed, IsStateOf, Follows, Id, Event, Submit, Reply, Accepted}
use Rattle.resil_rule.specs.Limits.{AreLimits}
use Rattle.resil_rule.proofs.FreshLaws.{next-fresh}
use Rattle.resil_rule.proofs.OwedLaws.{submission-owes}
use Rattle.resil_rule.proofs.RuleLaws.{next-is}
use Rattle.resil_admission.specs.MachineView.{MachineView, ids_of, with_submission as machine_submission}
use Rattle.resil_admission.specs.JobsInvariant.{unpicked_in}
use Rattle.resil_admission.specs.MachineInvariant.{times_unpicked}
use Rattle.resil_admission.proofs.MachineLaws.{machine-after, started-within, seen, unpicked-submitted, accepted-after, refused-after, refused-counted, refused-view, accepted-view}
use Rattle.resil_admission.proofs.machine.Machine.submit.Goals.{After-next_reply-reply}
use Rattle.resil_admission.proofs.machine.Machine.submit.Goals as goal

-- once there is room: the rule, which is as before but for room, the history, and the event to come
module _ (c : After-next_reply-reply) where
  abbrev v : RuleView (Unit {0})
  v = c.make_room.new.rule

  abbrev h : List Event
  h = c.self.inside.history.events

  abbrev jobs : List Accepted
  jobs = c.self.inside.jobs.jobs

  abbrev event : Event
  event = Submit c.args.id (next_reply v)

  state : IsStateOf h v
  state = c.make_room.ensures.stays h c.self.invariant.state

  limits : AreLimits v.limits
  limits = rw c.make_room.ensures.rule c.self.invariant.limits

  next : c.args.id.number ≡ suc (made_by v c.args.id.caller)
  next = c.is_next.ensures.0 (rw c.if-not-is_next.false refl) ∙ ap suc (sym (c.make_room.ensures.made c.args.id.caller))

  new : is_among c.args.id (ids_of jobs) ≡ false
  new = ap (is_among c.args.id) c.self.invariant.accepted ∙ next-fresh v.limits h c.args.id state.legal (next-is v h state c.args.id next c.in-Ok.ensures.caller)

  view : seen v h jobs ≡ seen c.self.inside.rule h jobs
  view = ap (λ (v : RuleView (Unit {0})). seen v h jobs) c.make_room.ensures.rule

  unpicked : (x : Id) → 1 ≤ times_unpicked v x → unpicked_in c.make_room.new.jobs.kept x ≡ true
  unpicked = rw (c.make_room.ensures.rule, c.make_room.ensures.unpicked) c.self.invariant.unpicked

-- a submission that is refused counts alone
module _ (c : goal.Joined-job) where
  abbrev ready : After-next_reply-reply
  ready = (goal.at.returns-then-not-is_acceptance-clause-event c).After-next_reply-reply

  bars : is_acceptance (next_reply (v ready)) ≡ false
  bars = ap is_acceptance (sym c.next_reply-reply.ensures.rule_of_admission) ∙ sym c.is_acceptance.ensures ∙ c.if-not-is_acceptance.true

  refused : c.submit_with_reply.new.self ≡ counted (v ready) c.args.id
  refused = rw c.next_reply-reply.ensures.rule_of_admission at c.submit_with_reply.ensures.submitted ∙ refused-counted (v ready) c.args.id (next_reply (v ready)) (bars)

  refused-follows : Follows (v ready) (event ready) (counted (v ready) c.args.id)
  refused-follows = rw (refused, c.next_reply-reply.ensures.rule_of_admission) at c.submit_with_reply.ensures.follows

  refused-events : c.write.new.self.events ≡ h ready ++ event ready ∷ []
  refused-events = c.write.ensures.written (h ready) c.make_room.ensures.kept ∙ ap (λ (reply : Reply). h ready ++ Submit c.args.id reply ∷ []) c.next_reply-reply.ensures.rule_of_admission

-- a submission that is accepted has its worker or its place in the queue, and its job is kept
module _ (c : goal.After-push) where
  abbrev room : After-next_reply-reply
  room = (goal.at.returns-clause-event c).After-next_reply-reply

  accepts : is_acceptance (next_reply (v room)) ≡ true
  accepts = ap is_acceptance (sym c.next_reply-reply.ensures.rule_of_admission) ∙ sym c.is_acceptance.ensures ∙ c.if-not-is_acceptance.false

  accepted : c.submit_with_reply-2.new.self ≡ with_submission (v room) c.args.id tt (next_reply (v room))
  accepted = rw c.next_reply-reply.ensures.rule_of_admission at c.submit_with_reply-2.ensures.submitted

  accepted-follows : Follows (v room) (event room) (with_submission (v room) c.args.id tt (next_reply (v room)))
  accepted-follows = rw (accepted, c.next_reply-reply.ensures.rule_of_admission) at c.submit_with_reply-2.ensures.follows

  accepted-events : c.write-2.new.self.events ≡ h room ++ event room ∷ []
  accepted-events = c.write-2.ensures.written (h room) c.make_room.ensures.kept ∙ ap (λ (reply : Reply). h room ++ Submit c.args.id reply ∷ []) c.next_reply-reply.ensures.rule_of_admission

  kept : c.push.new.self.jobs ≡ jobs room ++ record { id = c.args.id; plan = c.args.job; run = None } ∷ []
  kept = rw (c.reserve.ensures.jobs, c.make_room.ensures.jobs, c.in-Ok-shared_plan.ensures.shared) at c.push.ensures.jobs

pub push-requires-clause-new : goal.push-requires-clause-new
push-requires-clause-new c = rw (c.reserve.ensures.jobs, c.make_room.ensures.jobs) (new (goal.at.push-requires-clause-new c).After-next_reply-reply)

pub invariant_of-self-then-not-is_acceptance : goal.invariant_of-self-then-not-is_acceptance
invariant_of-self-then-not-is_acceptance c =
    let at = ready c in
    let fits = c.write.ensures.room (owed (v at)) (omega (arith, c.in-Ok.ensures.events)) in
    rw (refused c) (machine-after (h at) (event at) (counted (v at) c.args.id) c.write.new.self c.make_room.new.jobs (limits at) (refused-follows c (h at) (state at)).1 (refused-events c) fits
    (ap ids_of c.make_room.ensures.jobs ∙ c.self.invariant.accepted ∙ sym (refused-after (h at) c.args.id (next_reply (v at)) (bars c)))
    (unpicked at))

pub returns-then-not-is_acceptance-clause-event : goal.returns-then-not-is_acceptance-clause-event
returns-then-not-is_acceptance-clause-event c =
    let at = ready c in
    rw (← c.self.view_is, refused c, refused-events c, c.make_room.ensures.jobs, c.next_reply-reply.ensures.rule_of_admission)
    (refused-view (v at) (h at) (jobs at) c.args.id (next_reply (v at)) c.args.job (bars c) ∙ ap (λ (m : MachineView). machine_submission m c.args.id (next_reply (v at)) c.args.job) (view at))

pub invariant_of-self-2 : goal.invariant_of-self-2
invariant_of-self-2 c =
    let at = room c in
    let reply = next_reply (v at) in
    let most = submission-owes (v at) c.args.id tt reply in
    let fits = c.write-2.ensures.room (owed (v at) + 2) (omega (arith, c.in-Ok.ensures.events)) in
    let old = rw (← c.reserve.ensures.kept) at (unpicked at) in
    let waits : (x : Id) → 1 ≤ times_unpicked (with_submission (v at) c.args.id tt reply) x → unpicked_in c.push.new.self.kept x ≡ true = λ x some.
    c.push.ensures.unpicked x (elim (unpicked-submitted (v at) c.args.id tt reply x some) [ inl same ↦ inl same | inr before ↦ inr (old x before) ]) in
    rw (accepted c) (machine-after (h at) (event at) (with_submission (v at) c.args.id tt reply) c.write-2.new.self c.push.new.self (started-within (v at) c.args.id tt reply (limits at)) (accepted-follows c (h at) (state at)).1 (accepted-events c) (omega (arith, most, fits))
    (ap ids_of (kept c) ∙ accepted-after (h at) (jobs at) c.args.id c.args.job reply (accepts c) c.self.invariant.accepted) waits)

pub returns-clause-event : goal.returns-clause-event
returns-clause-event c =
    let at = room c in
    rw (← c.self.view_is, accepted c, accepted-events c, kept c, c.next_reply-reply.ensures.rule_of_admission)
    (accepted-view (v at) (h at) (state at) (jobs at) c.args.id (next_reply (v at)) c.args.job (accepts c) ∙ ap (λ (m : MachineView). machine_submission m c.args.id (next_reply (v at)) c.args.job) (view at))
