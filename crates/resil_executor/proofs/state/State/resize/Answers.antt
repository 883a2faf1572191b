-- The new sizes.
use Rattle.resil_rule.specs.declared.event.Event.TheVariants as event
use Rattle.resil_executor.specs.Turn.{Writes}
use Rattle.resil_executor.proofs.StateLaws.{writes-by}
use Rattle.std.proofs.Common.{◌≡◌, inl, refl, subst, ◌∙◌, ap, arith}
use Rattle.resil_rule.specs.RuleView.{owed}
use Rattle.resil_executor.specs.Kept.{unfinished}
use Rattle.resil_executor.proofs.KeptLaws.{keeps-event}
use Rattle.resil_executor.proofs.state.State.resize.Goals as goal

pub returns-clause-resized : goal.returns-clause-resized
returns-clause-resized g c =
    subst (λ (v : _). Writes v (event.Resized c.args.core c.args.max) c.note.new.self.rule c.note.new.self.last) c.make_room.ensures.same.0
    (writes-by _ _ _ _ _ (event.Resized c.args.core c.args.max) refl refl (λ x. refl) (λ job there. inl there) (λ job there. inl there) c.in_ok-resize.ensures.event c.in_ok-resize.ensures.follows c.note.ensures.same.0 c.note.ensures.same.1)

pub note-requires : goal.note-requires
note-requires g c =
    let same : owed c.resize.new.self ≡ owed c.make_room.new.self.rule = ap owed c.in_ok-resize.ensures.event in
    record { room = subst (λ n. g.H.Record.HasRoom n c.make_room.new.self.kept) (omega (arith, same)) c.in_ok-make_room.ensures.room }

pub returns-clause-keeps : goal.returns-clause-keeps
returns-clause-keeps g c =
    let jobs : unfinished c.note.new.self.rule ≡ unfinished c.make_room.new.self.rule = ap unfinished (c.note.ensures.same.0 ∙ c.in_ok-resize.ensures.event) in
    let before : unfinished c.make_room.new.self.rule ≡ unfinished c.args.self.now.rule = ap unfinished c.make_room.ensures.same.0 in
    let count = c.note.ensures.same.2 in
    let was = c.make_room.ensures.same.2 in
    keeps-event g.H.Record.IsRecordOf g.H.Record.HasRoom _ _ _ _ _ _ _ (event.Resized c.args.core c.args.max) c.note.ensures.same.1 (omega (arith, count, was)) (λ h is. c.note.ensures.recorded h (c.make_room.ensures.kept h is)) c.note.ensures.room (omega (arith, jobs, before)) tt
