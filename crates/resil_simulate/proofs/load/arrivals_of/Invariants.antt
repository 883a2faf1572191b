use Rattle.resil_simulate.proofs.Words.{◌≡◌, take, arrivals_of}
use Rattle.resil_simulate.proofs.load.arrivals_of.Given as goal

-- the jobs of the rows so far
abbrev pub invariant-loop-index : goal.invariant-loop-index
invariant-loop-index l = l.arrivals.items ≡ arrivals_of (take l.index l.rows)
