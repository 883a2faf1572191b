-- The closing.
use Rattle.std.proofs.Common.{◌≡◌, inl, refl, sym, subst, ◌∙◌, ap, arith}
use Rattle.std.proofs.lemmas.Bool.{OnTrue_from}
use Rattle.resil_executor.proofs.StateLaws.{writes-by}
use Rattle.resil_rule.specs.declared.event.Event.TheVariants as event
use Rattle.resil_executor.specs.Kept.{unfinished}
use Rattle.resil_rule.proofs.OwedLaws.{close-owes}
use Rattle.resil_executor.proofs.KeptLaws.{keeps-event}
use Rattle.resil_executor.proofs.state.State.close.Goals as goal

pub returns-then-closes-clause-closed : goal.returns-then-closes-clause-closed
returns-then-closes-clause-closed g c =
    OnTrue_from _ _ (λ _. writes-by _ _ _ _ _ event.Close refl refl (λ x. refl) (λ job there. inl there) (λ job there. inl there) c.if-closes.ensures.event c.if-closes.ensures.follows c.note.ensures.same.0 c.note.ensures.same.1)

pub note-requires : goal.note-requires
note-requires g c =
    let open' = c.close-closes.ensures.closes.0 (rw c.if-closes.true refl) in
    record { room = subst (λ n. g.H.Record.HasRoom n c.args.self.now.kept) (sym (close-owes _ _ open' c.if-closes.ensures.event)) c.requires.room }

pub returns-then-closes-clause-keeps : goal.returns-then-closes-clause-keeps
returns-then-closes-clause-keeps g c =
    let jobs : unfinished c.note.new.self.rule ≡ unfinished c.args.self.now.rule = ap unfinished (c.note.ensures.same.0 ∙ c.if-closes.ensures.event) in
    let count = c.note.ensures.same.2 in
    keeps-event g.H.Record.IsRecordOf g.H.Record.HasRoom _ _ _ _ _ _ _ event.Close c.note.ensures.same.1 (omega (arith, count)) c.note.ensures.recorded c.note.ensures.room (omega (arith, jobs)) tt
