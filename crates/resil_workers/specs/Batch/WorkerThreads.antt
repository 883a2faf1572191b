-- The workers of a batch before their threads start.
use Rattle.std.specs.Prelude.{◌≡◌, ◌≤◌, ℕ, [], All, length, vec_capacity}
use Rattle.resil_workers.specs.declared.batch.worker_threads.ReadyWorkers.{ReadyWorkers}
use Rattle.resil_pool.specs.Lock.Turn.{PoolId}

-- this many workers of this pool, with room for a thread and an end of each
pub record AreReadyWorkers {R : Type 0} (source : PoolId) (count : ℕ) (workers : ReadyWorkers R) : Type 0 where
  pub sources : All (λ ready. ready.worker.source ≡ source) workers.each.items
  pub number : length workers.each.items ≡ count
  pub no_threads : workers.threads.started.items ≡ []
  pub room : count ≤ vec_capacity workers.threads.started
  pub no_ends : workers.threads.ends.items ≡ []
  pub ends_room : count ≤ vec_capacity workers.threads.ends
