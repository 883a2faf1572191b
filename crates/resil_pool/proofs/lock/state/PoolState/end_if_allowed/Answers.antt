-- An idle end is written or not, and no job may be taken after it.
use Rattle.std.proofs.Common.{refl}
use Rattle.resil_pool.specs.Words.{IdleEnd}
use Rattle.resil_pool.proofs.MachineCalls.{as_noted, idle_end_after}
use Rattle.resil_pool.proofs.lock.state.PoolState.end_if_allowed.Goals as goal

pub returns : goal.returns
returns c =
    let e = c.idle_end-ended.ensures in
    idle_end_after c.idle_end-ended.result _ _ c.note_if-self.result (as_noted IdleEnd c.idle_end-ended.result _ _ c.note_if-self.result refl (λ _. refl) e.ends.0 e.event e.unchanged c.note_if-self.ensures) e.ends e.event e.unchanged c.requires
