use Rattle.resil_replay.proofs.Words.{inl, refl, IdleEnd}
use Rattle.resil_replay.proofs.PoolLaws.{kept-same}
use Rattle.resil_replay.proofs.pool.ReplayPool.idle.Goals as goal

pub invariant_of-self-2 : goal.invariant_of-self-2
invariant_of-self-2 c =
    let grown = rw c.if-not-idle_end.false at c.idle_end.ensures.event in
    rw grown (kept-same c.self.inside.machine _ c.self.inside.out.items IdleEnd refl refl refl refl c.self.invariant.plans c.self.invariant)

pub returns-clause-played : goal.returns-clause-played
returns-clause-played c =
    let grown = rw c.if-not-idle_end.false at c.idle_end.ensures.event in
    rw (← c.self.view_is, grown) (inl (IdleEnd, refl, c.idle_end.ensures.ends.0 (rw c.if-not-idle_end.false refl), refl, refl))
