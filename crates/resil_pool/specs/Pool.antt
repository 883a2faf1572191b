-- What contracts see of a pool.
use Rattle.std.specs.Prelude.{ℕ}
use Rattle.resil_pool.specs.Lock.{PoolId}

-- a pool: its turn, with its limits, how many callers it was opened for, and how many empty polls the keep-alive is
pub record PoolView : Type 0 where
  pub source : PoolId
  pub callers : ℕ
  pub keep_alive : ℕ
