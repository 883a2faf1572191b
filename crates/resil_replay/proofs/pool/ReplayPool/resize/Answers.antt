use Rattle.resil_replay.proofs.Words.{inl, refl, with_event, Resized}
use Rattle.resil_replay.proofs.PoolLaws.{kept-same}
use Rattle.resil_replay.proofs.pool.ReplayPool.resize.Goals.{in-Ok, in-Err-CoreOutOfRange, in-Err-MaxOutOfRange, in-Err}
use Rattle.resil_replay.proofs.pool.ReplayPool.resize.Goals as goal

pub invariant_of-self : goal.invariant_of-self
invariant_of-self c =
    let m = c.self.inside.machine in
    let kept = c.self.invariant in
    elim c.match-resize.branch [
      | in-Ok w ↦ rw w.in-Ok.ensures.event (kept-same m (with_event m (Resized c.args.core c.args.max)) c.self.inside.out.items (Resized c.args.core c.args.max) refl refl refl refl kept.plans kept)
      | in-Err-CoreOutOfRange w ↦ rw w.in-Err-CoreOutOfRange.ensures.unchanged kept
      | in-Err-MaxOutOfRange w ↦ rw w.in-Err-MaxOutOfRange.ensures.unchanged kept
      | in-Err w ↦ rw w.in-Err.ensures.unchanged kept
    ]

pub returns-clause-played : goal.returns-clause-played
returns-clause-played c =
    elim c.match-resize.branch [
      | in-Ok w ↦ rw (w.result-is, ← c.self.view_is, w.in-Ok.ensures.event) (inl (Resized c.args.core c.args.max, refl, w.in-Ok.ensures.allowed, refl, refl))
      | in-Err-CoreOutOfRange w ↦ rw w.result-is tt
      | in-Err-MaxOutOfRange w ↦ rw w.result-is tt
      | in-Err w ↦ rw w.result-is tt
    ]
