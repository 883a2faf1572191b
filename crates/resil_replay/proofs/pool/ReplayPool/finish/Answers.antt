use Rattle.resil_replay.proofs.Words.{inl, Some, ◌∙◌, sym, ap, refl, Finish}
use Rattle.resil_replay.proofs.PoolLaws.{plan-out, finished-kept, left-kept, out-running, refused-idle, idle-where-none}
use Rattle.resil_replay.proofs.pool.ReplayPool.finish.Goals as goal
use Rattle.resil_replay.proofs.pool.ReplayPool.finish.Goals.{in-Ok, in-Err}

pub returns-in_default-clause-refused : goal.returns-in_default-clause-refused
returns-in_default-clause-refused c =
    rw (← c.self.view_is) (idle-where-none c.self.inside.machine c.self.inside.out.items c.args.id c.self.invariant c.in_default.ensures.none)

pub finish_picked-requires : goal.finish_picked-requires
finish_picked-requires c = plan-out _ _ _ c.args.id _ c.self.invariant c.in-Some.ensures.taken ∙ ap Some (sym c.run.ensures.plan)

pub invariant_of-self-2 : goal.invariant_of-self-2
invariant_of-self-2 c =
    let taken_ = c.in-Some.ensures.taken in
    elim c.match-finish_picked.branch [
      | in-Ok w ↦ rw w.in-Ok.ensures.event (finished-kept _ _ _ c.args.id _ c.self.invariant taken_ c.run.result)
      | in-Err w ↦
          let idle = refused-idle _ _ c.args.id c.in-Some.job _ c.self.invariant (plan-out _ _ _ c.args.id _ c.self.invariant taken_) (rw c.run.ensures.plan at w.in-Err.ensures.refused) in
          rw w.in-Err.ensures.unchanged (left-kept _ _ _ c.args.id _ c.self.invariant taken_ idle)
    ]

pub returns-clause-played : goal.returns-clause-played
returns-clause-played c =
    elim c.match-finish_picked.branch [
      | in-Ok w ↦
          let runs = rw (out-running c.self.inside.machine c.self.inside.out.items c.self.invariant) at (w.in-Ok.ensures.out.0 refl).0 in
          rw (w.result-is, ← c.self.view_is, w.in-Ok.ensures.event) (inl (Finish c.args.id, refl, runs, refl, refl))
      | in-Err w ↦ rw w.result-is tt
    ]

pub returns-clause-refused : goal.returns-clause-refused
returns-clause-refused c =
    elim c.match-finish_picked.branch [
      | in-Ok w ↦ rw w.result-is tt
      | in-Err w ↦
          rw (w.result-is, ← c.self.view_is)
          (refused-idle _ _ c.args.id c.in-Some.job _ c.self.invariant (plan-out _ _ _ c.args.id _ c.self.invariant c.in-Some.ensures.taken) (rw c.run.ensures.plan at w.in-Err.ensures.refused))
    ]
