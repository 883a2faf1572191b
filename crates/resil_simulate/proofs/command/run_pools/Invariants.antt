use Rattle.resil_simulate.proofs.Words.{◌≡◌, All, map, take, IsPoolRun}
use Rattle.resil_simulate.proofs.command.run_pools.Given as goal

-- the pools so far, each with its numbers
abbrev pub invariant-loop-limits : goal.invariant-loop-limits
invariant-loop-limits g l = record {
  pools : map (λ pool. pool.0) l.done.items ≡ take l.limits-index l.pools;
  numbers : All (λ pool. IsPoolRun l.ways l.arrivals pool.0 pool.1) l.done.items;
}
