use Rattle.resil_simulate.proofs.Words.{◌≡◌, string_bytes, take, pools_text}
use Rattle.resil_simulate.proofs.table.table_text.Given as goal

-- the records of the pools so far
abbrev pub invariant-loop-pool : goal.invariant-loop-pool
invariant-loop-pool l = string_bytes l.text ≡ pools_text l.own (take l.pool-index l.pools)
