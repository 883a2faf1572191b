use Rattle.resil_simulate.proofs.Words.{◌≡◌, filter_map, suc, take, submitted_at}
use Rattle.std.specs.List.{enumerate_from}
use Rattle.resil_simulate.proofs.history.submissions_behind.Given as goal

-- the submissions among the events so far
abbrev pub invariant-loop-index : goal.invariant-loop-index
invariant-loop-index l = l.jobs.items ≡ filter_map (submitted_at l.history) (enumerate_from (suc l.restated) (take l.index l.rest))
