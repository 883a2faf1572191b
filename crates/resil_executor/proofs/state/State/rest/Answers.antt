-- The end of an idle worker.
use Rattle.resil_executor.proofs.StateLaws.{writes-by}
use Rattle.std.proofs.Common.{◌≡◌, inl, refl, sym, subst, ◌∙◌, ap, arith}
use Rattle.resil_rule.specs.declared.event.Event.TheVariants as event
use Rattle.resil_executor.specs.Kept.{unfinished}
use Rattle.resil_rule.proofs.OwedLaws.{idle-owes}
use Rattle.resil_executor.proofs.KeptLaws.{keeps-event}
use Rattle.resil_executor.proofs.state.State.rest.Goals as goal

pub returns-then-idle_end-clause-steps : goal.returns-then-idle_end-clause-steps
returns-then-idle_end-clause-steps g c =
    (writes-by _ _ _ _ _ event.IdleEnd refl refl (λ x. refl) (λ job there. inl there) (λ job there. inl there) c.if-idle_end.ensures.event c.if-idle_end.ensures.follows c.note.ensures.same.0 c.note.ensures.same.1).steps

pub note-requires : goal.note-requires
note-requires g c =
    let may = c.idle_end.ensures.ends.0 (rw c.if-idle_end.true refl) in
    record { room = subst (λ n. g.H.Record.HasRoom n c.args.self.now.kept) (sym (idle-owes _ _ may c.if-idle_end.ensures.event)) c.requires.room }

pub returns-then-idle_end-clause-keeps : goal.returns-then-idle_end-clause-keeps
returns-then-idle_end-clause-keeps g c =
    let jobs : unfinished c.note.new.self.rule ≡ unfinished c.args.self.now.rule = ap unfinished (c.note.ensures.same.0 ∙ c.if-idle_end.ensures.event) in
    let count = c.note.ensures.same.2 in
    keeps-event g.H.Record.IsRecordOf g.H.Record.HasRoom _ _ _ _ _ _ _ event.IdleEnd c.note.ensures.same.1 (omega (arith, count)) c.note.ensures.recorded c.note.ensures.room (omega (arith, jobs)) tt
