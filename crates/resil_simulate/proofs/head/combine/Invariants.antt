use Rattle.resil_simulate.proofs.Words.{◌≡◌, ◌++◌, drop, filter, combinations, is_pool, with_maxes, with_queues}
use Rattle.resil_simulate.proofs.head.combine.Given as goal

-- the pools so far, and those of the sizes left, are all pools of the loop
abbrev pub invariant-loop-core : goal.invariant-loop-core
invariant-loop-core l =
    l.pools.items ++ filter is_pool (combinations (drop l.core-index l.fn.cores) l.fn.maxes l.fn.queues) ≡ filter is_pool (combinations l.fn.cores l.fn.maxes l.fn.queues)

abbrev pub invariant-loop-max : goal.invariant-loop-max
invariant-loop-max l =
    l.pools.items ++ filter is_pool (with_maxes (drop l.max-index l.fn.maxes) l.fn.queues l.core) ≡ l.initial.pools.items ++ filter is_pool (with_maxes l.fn.maxes l.fn.queues l.core)

abbrev pub invariant-loop-queue : goal.invariant-loop-queue
invariant-loop-queue l =
    l.pools.items ++ filter is_pool (with_queues (drop l.queue-index l.fn.queues) l.core l.max) ≡ l.initial.pools.items ++ filter is_pool (with_queues l.fn.queues l.core l.max)
