use Rattle.resil_replay.proofs.Words.{inl, refl, Take}
use Rattle.resil_replay.proofs.PoolLaws.{picked-taken, taken-kept}
use Rattle.resil_replay.proofs.pool.ReplayPool.take.Goals as goal

pub invariant_of-self-in-Some : goal.invariant_of-self-in-Some
invariant_of-self-in-Some c =
    let p = c.in-Some.picked in
    rw (c.push_reserved.ensures.items, c.reserve.ensures.items)
    (taken-kept c.self.inside.machine c.pick.new.self c.self.inside.out.items p.0 p.1 c.self.invariant c.in-Some.ensures.picked c.in-Some.ensures.plan)

pub returns-in-Some-clause-played : goal.returns-in-Some-clause-played
returns-in-Some-clause-played c =
    let id = c.in-Some.picked.0 in
    let taken_ = picked-taken c.self.inside.machine c.pick.new.self c.self.inside.out.items id c.self.invariant c.in-Some.ensures.picked in
    rw (← c.self.view_is, taken_.1) (inl (Take id, refl, taken_.0, refl, refl))
