-- The end of a job.
use Rattle.std.proofs.Common.{sym, subst, ◌∙◌, ap, arith, rules}
use Rattle.resil_rule.specs.declared.event.Event.TheVariants as event
use Rattle.resil_executor.specs.Kept.{unfinished}
use Rattle.resil_executor.proofs.StateLaws.{finish-writes}
use Rattle.resil_rule.proofs.OwedLaws.{finish-owes}
use Rattle.resil_executor.proofs.KeptLaws.{keeps-event, finish-jobs}
use Rattle.resil_executor.proofs.state.State.finish.Goals as goal

pub returns-clause-writes : goal.returns-clause-writes
returns-clause-writes g c =
    let ended = c.end_job-slot.ensures in
    finish-writes _ _ _ _ c.end_job-slot.result c.args.slot.id ended.id ended.place ended.event ended.follows c.note.ensures.same.0 (search rules)

pub note-requires : goal.note-requires
note-requires g c =
    let ended = c.end_job-slot.ensures in
    record { room = subst (λ n. g.H.Record.HasRoom n c.args.self.now.kept) (sym (finish-owes _ _ c.end_job-slot.result ended.place ended.event)) c.requires.room }

pub returns-clause-keeps : goal.returns-clause-keeps
returns-clause-keeps g c =
    let ended = c.end_job-slot.ensures in
    let jobs = finish-jobs _ _ c.end_job-slot.result ended.place ended.event in
    let same = ap unfinished c.note.ensures.same.0 in
    keeps-event g.H.Record.IsRecordOf g.H.Record.HasRoom _ _ _ _ _ _ _ (event.Finish c.end_job-slot.result.id) c.note.ensures.same.1 (c.note.ensures.same.2 ∙ omega arith) c.note.ensures.recorded c.note.ensures.room
    (omega (arith, jobs, same)) tt
