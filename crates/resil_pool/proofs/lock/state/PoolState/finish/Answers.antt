-- A job that is out is ended: its finish is written, and its run kept.
use Rattle.std.proofs.Common.{ap, ◌∙◌}
use Rattle.resil_pool.specs.Words.{Finish, MachineView}
use Rattle.resil_lock.specs.declared.log.Note.TheVariants as note
use Rattle.resil_pool.specs.Lock.{run_of}
use Rattle.resil_pool.proofs.RemainingLaws.{run_of-with_run}
use Rattle.resil_pool.proofs.MachineCalls.{moved-one, finish-step, finish-told}
use Rattle.resil_pool.proofs.lock.state.PoolState.finish.Goals as goal

pub returns-clause-wrote : goal.returns-clause-wrote
returns-clause-wrote c = moved-one _ _ _ (note.Event (Finish c.args.id)) c.note_if-self.ensures (finish-step _ _ _ _ c.requires.out c.in-Ok.ensures.event)

pub returns-clause-kept : goal.returns-clause-kept
returns-clause-kept c =
    finish-told _ c.args.id c.args.run _ c.note_if-self.ensures (ap (λ (m : MachineView). run_of m.jobs c.args.id) c.in-Ok.ensures.event ∙ run_of-with_run c.args.self.now.machine.jobs c.args.id _ _ c.requires.plan)
