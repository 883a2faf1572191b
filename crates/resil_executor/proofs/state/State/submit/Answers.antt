-- A submission.
use Rattle.std.proofs.Common.{◌≡◌, ◌∙◌, subst, ap, arith, rules}
use Rattle.resil_rule.specs.RuleState.{IsSubmitRefusal}
use Rattle.resil_rule.specs.declared.event.Reply.TheVariants as reply
use Rattle.resil_rule.specs.declared.event.Event.TheVariants as event
use Rattle.resil_executor.specs.Kept.{unfinished}
use Rattle.resil_executor.specs.Turn.{Writes, Accepts}
use Rattle.resil_executor.proofs.StateLaws.{accept-writes, submit-writes}
use Rattle.resil_executor.proofs.KeptLaws.{keeps-event, submit-jobs, accepts-one}
use Rattle.resil_executor.proofs.state.State.submit.Goals as goal

pub returns-in-Ok-submit-clause-accepted : goal.returns-in-Ok-submit-clause-accepted
returns-in-Ok-submit-clause-accepted g c =
    let told = c.in-Ok-submit.ensures.accepted in
    subst (λ v. Accepts v c.in-Some.id c.in-Ok-submit.reply c.args.work c.note.new.self.rule c.note.new.self.last) c.make_room.ensures.same.0
    (accept-writes _ _ _ _ c.in-Some.id c.in-Ok-submit.reply c.args.work told.1 told.2 c.in-Ok-submit.ensures.follows c.note.ensures.same.0 c.note.ensures.same.1)

pub returns-in-Err-Full-default-clause-refused : goal.returns-in-Err-Full-default-clause-refused
returns-in-Err-Full-default-clause-refused g c =
    let why = subst (λ e. IsSubmitRefusal c.make_room.new.self.rule c.in-Some.id e c.submit.new.self) c.in-Err-Full-default.field-0-0-is c.in-Err-Full-default.ensures.refused in (
      c.in-Some.id,
      subst (λ v. Writes v (event.Submit c.in-Some.id reply.Full) c.note-in-Err-Full-default.new.self.rule c.note-in-Err-Full-default.new.self.last) c.make_room.ensures.same.0
          (submit-writes _ _ _ _ c.in-Some.id reply.Full c.args.work why.1 why.2 c.note-in-Err-Full-default.ensures.same.0 c.note-in-Err-Full-default.ensures.same.1),
    )

pub returns-in-Err-Closed-default-clause-refused : goal.returns-in-Err-Closed-default-clause-refused
returns-in-Err-Closed-default-clause-refused g c =
    let why = subst (λ e. IsSubmitRefusal c.make_room.new.self.rule c.in-Some.id e c.submit.new.self) c.in-Err-Closed-default.field-0-0-is c.in-Err-Closed-default.ensures.refused in
    let told =
    subst (λ v. Writes v (event.Submit c.in-Some.id reply.Closed) c.note-in-Err-Closed-default.new.self.rule c.note-in-Err-Closed-default.new.self.last) c.make_room.ensures.same.0
    (submit-writes _ _ _ _ c.in-Some.id reply.Closed c.args.work why.1 why.2 c.note-in-Err-Closed-default.ensures.same.0 c.note-in-Err-Closed-default.ensures.same.1) in
    (c.in-Some.id, search (rules, told))

pub returns-in-Ok-submit-clause-keeps : goal.returns-in-Ok-submit-clause-keeps
returns-in-Ok-submit-clause-keeps g c =
    let told = c.in-Ok-submit.ensures.accepted in
    let before : unfinished c.make_room.new.self.rule ≡ unfinished c.args.self.now.rule = ap unfinished c.make_room.ensures.same.0 in
    let after : unfinished c.note.new.self.rule ≡ unfinished c.submit.new.self = ap unfinished c.note.ensures.same.0 in
    let jobs = submit-jobs _ _ c.in-Some.id c.args.work c.in-Ok-submit.reply told.1 told.2 in
    let count = c.note.ensures.same.2 in
    let was = c.make_room.ensures.same.2 in
    keeps-event g.H.Record.IsRecordOf g.H.Record.HasRoom _ _ _ _ _ _ _ (event.Submit c.in-Some.id c.in-Ok-submit.reply) c.note.ensures.same.1
    (accepts-one c.args.self.now.rule c.note.new.self.rule _ _ c.in-Some.id c.in-Ok-submit.reply told.1 (omega (arith, count, was)))
    (λ h is. c.note.ensures.recorded h (c.make_room.ensures.kept h is)) c.note.ensures.room (omega (arith, jobs, before, after)) c.in-Some.ensures.next.0

pub returns-in-Err-Full-default-clause-keeps : goal.returns-in-Err-Full-default-clause-keeps
returns-in-Err-Full-default-clause-keeps g c =
    let why = subst (λ e. IsSubmitRefusal c.make_room.new.self.rule c.in-Some.id e c.submit.new.self) c.in-Err-Full-default.field-0-0-is c.in-Err-Full-default.ensures.refused in
    let jobs : unfinished c.note-in-Err-Full-default.new.self.rule ≡ unfinished c.args.self.now.rule = ap unfinished (c.note-in-Err-Full-default.ensures.same.0 ∙ why.1) ∙ ap unfinished c.make_room.ensures.same.0 in
    let count = c.note-in-Err-Full-default.ensures.same.2 ∙ c.make_room.ensures.same.2 in
    keeps-event g.H.Record.IsRecordOf g.H.Record.HasRoom _ _ _ _ _ _ _ (event.Submit c.in-Some.id reply.Full) c.note-in-Err-Full-default.ensures.same.1 (omega (arith, count))
    (λ h is. c.note-in-Err-Full-default.ensures.recorded h (c.make_room.ensures.kept h is)) c.note-in-Err-Full-default.ensures.room (omega (arith, jobs)) c.in-Some.ensures.next.0

pub returns-in-Err-Closed-default-clause-keeps : goal.returns-in-Err-Closed-default-clause-keeps
returns-in-Err-Closed-default-clause-keeps g c =
    let why = subst (λ e. IsSubmitRefusal c.make_room.new.self.rule c.in-Some.id e c.submit.new.self) c.in-Err-Closed-default.field-0-0-is c.in-Err-Closed-default.ensures.refused in
    let jobs : unfinished c.note-in-Err-Closed-default.new.self.rule ≡ unfinished c.args.self.now.rule = ap unfinished (c.note-in-Err-Closed-default.ensures.same.0 ∙ why.1) ∙ ap unfinished c.make_room.ensures.same.0 in
    let count = c.note-in-Err-Closed-default.ensures.same.2 ∙ c.make_room.ensures.same.2 in
    keeps-event g.H.Record.IsRecordOf g.H.Record.HasRoom _ _ _ _ _ _ _ (event.Submit c.in-Some.id reply.Closed) c.note-in-Err-Closed-default.ensures.same.1 (omega (arith, count))
    (λ h is. c.note-in-Err-Closed-default.ensures.recorded h (c.make_room.ensures.kept h is)) c.note-in-Err-Closed-default.ensures.room (omega (arith, jobs)) c.in-Some.ensures.next.0
