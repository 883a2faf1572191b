use Rattle.resil_simulate.proofs.Words.{◌≡◌, ◌<◌, ◌+◌, ◌*◌, ◌^◌, ℕ, sum, take, runs_of, end_of}
use Rattle.resil_simulate.proofs.LoadLaws.{end_to}
use Rattle.resil_simulate.proofs.load.first_late.Given as goal

-- the runs so far and a time to wake for each, the latest of the earliest ends so far, and that each job so far is in time
abbrev pub invariant-loop-index : goal.invariant-loop-index
invariant-loop-index l = record {
  spent : l.spent ≡ sum (runs_of (take l.index l.arrivals)) + l.ways.wakes * l.index;
  latest : l.latest ≡ end_to l.arrivals l.index;
  small : l.spent < 2 ^ 64;
  in_time : (k : ℕ) → k < l.index → end_of l.ways l.arrivals k < 2 ^ 64;
}
