use Rattle.resil_simulate.proofs.Words.{◌≡◌, take}
use Rattle.resil_simulate.specs.History.{last_at}
use Rattle.resil_simulate.proofs.history.last_at.Given as goal

-- the time of the last event so far
abbrev pub invariant-loop-timed : goal.invariant-loop-timed
invariant-loop-timed l = l.last ≡ last_at (take l.timed-index l.history)
