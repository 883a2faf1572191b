-- The sizes that a pool is opened with: which are allowed, and to which ones it may be resized.
use Rattle.std.specs.Prelude.{ℕ, ◌≤◌}
use Rattle.resil_rule.specs.declared.error.AdmitError.{AdmitError}
use Rattle.resil_rule.specs.declared.error.AdmitError.TheVariants as refused

-- the core size, the maximum size and the capacity of the queue
pub record Sizes : Type 0 where
  pub core : ℕ
  pub max : ℕ
  pub queue : ℕ

-- the largest size of a pool that records everything, in workers, and the largest capacity of a queue, in jobs; `Limits` has both for code
abbrev pub most_workers : ℕ
most_workers = 64

abbrev pub most_waiting : ℕ
most_waiting = 65536

-- a core size is from 1 to 64
abbrev pub IsCore : ℕ → Type 0
IsCore core = (1 ≤ core) × (core ≤ most_workers)

-- a maximum size is from the core size to 64
abbrev pub IsMax : ℕ → ℕ → Type 0
IsMax core max = (core ≤ max) × (max ≤ most_workers)

-- a queue capacity is from 1 to 65,536
abbrev pub IsQueue : ℕ → Type 0
IsQueue queue = (1 ≤ queue) × (queue ≤ most_waiting)

-- sizes that a pool may have
pub record AreLimits (sizes : Sizes) : Type 0 where
  pub core : IsCore sizes.core
  pub max : IsMax sizes.core sizes.max
  pub queue : IsQueue sizes.queue

-- sizes to which a pool of these limits may be resized: a core size from 1 to the maximum size, which is at most the limits' maximum size
abbrev pub AreSizesWithin : Sizes → ℕ → ℕ → Type 0
AreSizesWithin limits core max = (1 ≤ core) × (core ≤ max) × (max ≤ limits.max)

-- why sizes are refused: the first of the three that is out of its range
abbrev pub IsSizeRefusal : Sizes → AdmitError → Type 0
IsSizeRefusal sizes refused.CoreOutOfRange = ¬ IsCore sizes.core
IsSizeRefusal sizes refused.MaxOutOfRange = IsCore sizes.core × ¬ IsMax sizes.core sizes.max
IsSizeRefusal sizes refused.QueueOutOfRange = IsCore sizes.core × IsMax sizes.core sizes.max × ¬ IsQueue sizes.queue
IsSizeRefusal sizes _ = ⊥

-- why a pool of these limits isn't resized: its core size isn't from 1 to 64; or it is, and the maximum size is less than
-- the core size or greater than the limits' maximum size; or it is out of memory
abbrev pub IsResizeRefusal : Sizes → ℕ → ℕ → AdmitError → Type 0
IsResizeRefusal limits core max refused.CoreOutOfRange = ¬ IsCore core
IsResizeRefusal limits core max refused.MaxOutOfRange = IsCore core × ¬ AreSizesWithin limits core max
IsResizeRefusal limits core max refused.Memory = AreSizesWithin limits core max
IsResizeRefusal limits core max _ = ⊥
