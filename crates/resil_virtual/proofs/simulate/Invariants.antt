use Rattle.resil_virtual.proofs.Words.{◌≡◌, IsPool, arrivals_of, history_of, left_in, plan_of}
use Rattle.resil_virtual.proofs.simulate.Given as goal

abbrev pub invariant-loop-simulation : goal.invariant-loop-simulation
invariant-loop-simulation l = record {
  pool : IsPool l.simulation;
  load : (plan_of l.simulation ≡ l.pool) × (arrivals_of l.simulation ≡ l.arrivals);
  told : l.history.items ≡ history_of l.simulation;
}

abbrev pub decreases-loop-simulation : goal.decreases-loop-simulation
decreases-loop-simulation l = left_in l.simulation
