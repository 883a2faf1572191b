use Rattle.resil_replay.proofs.Words.{take, HasReplayed}
use Rattle.resil_replay.proofs.play.play.Given as goal

-- the rows so far were carried out
abbrev pub invariant-loop-index : goal.invariant-loop-index
invariant-loop-index l = HasReplayed l.fn.limits (take l.index l.rows) l.pool
