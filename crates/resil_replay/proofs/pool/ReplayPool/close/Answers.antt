use Rattle.resil_replay.proofs.Words.{◌≡◌, refl, Bool, true, false, OnTrue, OnFalse, MachineView, with_event, Close, ReplayPoolInvariant}
use Rattle.resil_replay.proofs.PlayLaws.{closing-played}
use Rattle.resil_replay.proofs.PoolLaws.{kept-same}
use Rattle.resil_replay.proofs.pool.ReplayPool.close.Goals as goal

pub invariant_of-self : goal.invariant_of-self
invariant_of-self c = go c.close.new.self c.close.result c.close.ensures.event c.close.ensures.unchanged
  where
    go : (n : MachineView) (b : Bool) → OnTrue b (n ≡ with_event c.self.inside.machine Close) → OnFalse b (n ≡ c.self.inside.machine) → ReplayPoolInvariant n c.self.inside.out.items
    go n true grown same = rw grown (kept-same c.self.inside.machine _ c.self.inside.out.items Close refl refl refl refl c.self.invariant.plans c.self.invariant)
    go n false grown same = rw same c.self.invariant

pub returns : goal.returns
returns c = rw (← c.self.view_is)
    (closing-played c.self.inside.machine c.close.new.self c.close.result c.close.ensures.closes.0 c.close.ensures.closes.1 c.close.ensures.event c.close.ensures.unchanged)
