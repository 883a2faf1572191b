use Rattle.std.proofs.Common.{◌≡◌, ◌≤◌, ◌+◌, ◌*◌, length}
use Rattle.resil_virtual.specs.Pool.{IsPool, arrivals_of, history_of, left_in, plan_of}
use Rattle.resil_simulate.specs.Command.{pool_of}
use Rattle.resil_simulate.specs.Tally.{IsTallyOf}
use Rattle.resil_simulate.proofs.command.run_pool.Given as goal

-- the tally is the one of what has happened, which is short
abbrev pub invariant-loop-tally : goal.invariant-loop-tally
invariant-loop-tally l = record {
  pool : IsPool l.simulation;
  load : (plan_of l.simulation ≡ pool_of l.fn.limits l.fn.ways) × (arrivals_of l.simulation ≡ l.arrivals);
  tally : IsTallyOf (history_of l.simulation) l.tally;
  few : length (history_of l.simulation) + left_in l.simulation ≤ 5 * length l.arrivals + 1;
}

abbrev pub decreases-loop-tally : goal.decreases-loop-tally
decreases-loop-tally l = left_in l.simulation
