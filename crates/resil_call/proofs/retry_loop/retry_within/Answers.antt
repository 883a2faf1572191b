use Rattle.std.proofs.Common.{rules}
use Rattle.resil_call.proofs.SharedLaws.{CanTry-of_both, IsRetried-of_both, after}
use Rattle.resil_call.proofs.retry_loop.retry_within.Goals as goal

pub retry_sharing_within-requires-clause-can : goal.retry_sharing_within-requires-clause-can
retry_sharing_within-requires-clause-can g c =
    CanTry-of_both g.C.Call.CanCall g.C.Call.IsAnswer g.P.Pause.HasRoom g.P.Pause.IsPaused c.args.policy.now.max_attempts _ c.requires.can c.requires.room

pub returns-clause-can : goal.returns-clause-can
returns-clause-can g c =
    let (can, (same_call, same_pause, room)) = after g.C.Call.CanCall g.C.Call.IsAnswer g.P.Pause.HasRoom g.P.Pause.IsPaused _ _ _ _ _ _ _ _ _ c.retry_sharing_within.ensures in search rules

pub returns-clause-retried : goal.returns-clause-retried
returns-clause-retried g c =
    let retried = IsRetried-of_both g.C.Call.CanCall g.C.Call.IsAnswer g.P.Pause.HasRoom g.P.Pause.IsPaused _ _ _ _ _ _ _ _ _ c.retry_sharing_within.ensures in
    let (can, (same_call, same_pause, room)) = after g.C.Call.CanCall g.C.Call.IsAnswer g.P.Pause.HasRoom g.P.Pause.IsPaused _ _ _ _ _ _ _ _ _ c.retry_sharing_within.ensures in search rules

pub returns-clause-room : goal.returns-clause-room
returns-clause-room g c =
    let (can, (same_call, same_pause, room)) = after g.C.Call.CanCall g.C.Call.IsAnswer g.P.Pause.HasRoom g.P.Pause.IsPaused _ _ _ _ _ _ _ _ _ c.retry_sharing_within.ensures in search rules
