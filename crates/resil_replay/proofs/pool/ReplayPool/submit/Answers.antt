use Rattle.resil_replay.proofs.Words.{◌≡◌, ◌∷◌, [], inl, refl, rules, with_submission, newly_accepted, started, Submit}
use Rattle.resil_replay.proofs.PoolLaws.{plans-grow, kept-same, next-submitted, picked-submitted, submitted-kept, found}
use Rattle.resil_replay.proofs.pool.ReplayPool.submit.Goals as goal

pub unwrap-picked-requires : goal.unwrap-picked-requires
unwrap-picked-requires c =
    let reply = c.in-Ok-Core.field-0 in
    let one : started (Submit c.args.id c.in-Ok-Core.field-0 ∷ []) ≡ c.args.id ∷ [] = search rules in
    let next = next-submitted c.self.inside.machine c.self.inside.out.items c.args.id reply c.in-Ok.job c.self.invariant one in
    found c.pick.result c.submit.new.self c.args.id c.pick.ensures.none (rw c.in-Ok-Core.ensures.event next)

pub invariant_of-self-in-Ok-Core : goal.invariant_of-self-in-Ok-Core
invariant_of-self-in-Ok-Core c =
    let one : started (Submit c.args.id c.in-Ok-Core.field-0 ∷ []) ≡ c.args.id ∷ [] = search rules in
    let picked = rw (c.unwrap-picked.ensures, c.in-Ok-Core.ensures.event) at c.pick.ensures.picked in
    let known = rw (c.unwrap-picked.ensures, c.in-Ok-Core.ensures.event) at c.pick.ensures.plan in
    rw (c.push_reserved.ensures.items, c.reserve.ensures.items)
    (submitted-kept c.self.inside.machine c.self.inside.out.items c.args.id c.in-Ok-Core.field-0 c.in-Ok.job c.self.invariant one c.pick.new.self c.unwrap-picked.result.0 c.unwrap-picked.result.1 picked known)

pub returns-in-Ok-Core-clause-played : goal.returns-in-Ok-Core-clause-played
returns-in-Ok-Core-clause-played c =
    let reply = c.in-Ok-Core.field-0 in
    let one : started (Submit c.args.id c.in-Ok-Core.field-0 ∷ []) ≡ c.args.id ∷ [] = search rules in
    let picked = rw (c.unwrap-picked.ensures, c.in-Ok-Core.ensures.event) at c.pick.ensures.picked in
    let at = picked-submitted c.self.inside.machine c.self.inside.out.items c.args.id reply c.in-Ok.job c.self.invariant one c.pick.new.self c.unwrap-picked.result.0 picked in
    rw (← c.self.view_is, at.1) (inl (Submit c.args.id reply, refl, c.in-Ok-Core.ensures.allowed, refl, refl))

pub invariant_of-self-in-Ok-Queued : goal.invariant_of-self-in-Ok-Queued
invariant_of-self-in-Ok-Queued c =
    let m = c.self.inside.machine in
    let reply = c.in-Ok-Queued.field-0 in
    let none : started (Submit c.args.id c.in-Ok-Queued.field-0 ∷ []) ≡ [] = search rules in
    rw (c.in-Ok-Queued.ensures.event, c.reserve.ensures.items)
    (kept-same m (with_submission m c.args.id reply c.in-Ok.job) c.self.inside.out.items (Submit c.args.id reply) none refl refl refl
    (plans-grow m.jobs (newly_accepted c.args.id reply c.in-Ok.job) c.self.inside.out.items c.self.invariant.plans) c.self.invariant)
