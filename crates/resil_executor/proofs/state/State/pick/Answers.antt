-- A pick.
use Rattle.std.proofs.Common.{refl, subst, sym, rules}
use Rattle.resil_rule.specs.RuleView.{owed}
use Rattle.resil_executor.specs.Kept.{Keeps}
use Rattle.resil_executor.proofs.StateLaws.{noted-picks}
use Rattle.resil_executor.proofs.KeptLaws.{pick-room, pick-keeps}
use Rattle.resil_executor.proofs.state.State.pick.Goals as goal

pub note_pick-requires : goal.note_pick-requires
note_pick-requires g c =
    let room = pick-room _ _ g.H.Record.IsRecordOf g.H.Record.HasRoom c.in_ok-picked.picked _ c.in_ok-picked.ensures.picked c.requires.room in
    record { started = room.0; took = room.1 }

pub returns-clause-picked : goal.returns-clause-picked
returns-clause-picked g c =
    noted-picks _ _ _ c.in_ok-picked.picked _ _ _ c.note_pick.ensures.own c.note_pick.ensures.queue c.in_ok-picked.ensures.picked (search rules) refl refl

pub returns-clause-keeps : goal.returns-clause-keeps
returns-clause-keeps g c =
    let same = c.note_pick.ensures.same in
    let is = c.in_ok-picked.ensures.picked in
    subst (λ v. Keeps g.H.Record.IsRecordOf g.H.Record.HasRoom c.args.self.now.rule c.args.self.now.accepted c.args.self.now.kept v c.note_pick.new.self.last c.note_pick.new.self.accepted c.note_pick.new.self.kept) (sym same.0)
    (pick-keeps _ _ g.H.Record.IsRecordOf g.H.Record.HasRoom c.in_ok-picked.picked _ _ _ _ _ is c.note_pick.ensures.own c.note_pick.ensures.queue same.1 c.note_pick.ensures.recorded (subst (λ v. g.H.Record.HasRoom (owed v) c.note_pick.new.self.kept) same.0 c.note_pick.ensures.room))
