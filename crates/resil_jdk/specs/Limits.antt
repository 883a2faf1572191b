-- The sizes that a pool may be opened with, and those that it may be resized to.
use Rattle.std.specs.Prelude.{ℕ, ◌≤◌}
use Rattle.resil_rule.specs.Limits.{Sizes}
use Rattle.resil_jdk.specs.declared.error.JdkError.{JdkError}
use Rattle.resil_jdk.specs.declared.error.JdkError.TheVariants as refused

-- a core size is at most 2^29 - 1
abbrev pub IsCore : ℕ → Type 0
IsCore core = core ≤ 536870911

-- a maximum size is from 1 and the core size to 2^29 - 1
abbrev pub IsMax : ℕ → ℕ → Type 0
IsMax core max = (1 ≤ max) × (core ≤ max) × (max ≤ 536870911)

-- a queue capacity is at most 2^31 - 1
abbrev pub IsQueue : ℕ → Type 0
IsQueue queue = queue ≤ 2147483647

-- sizes that a pool may be opened with
pub record AreJdkLimits (sizes : Sizes) : Type 0 where
  pub core : IsCore sizes.core
  pub max : IsMax sizes.core sizes.max
  pub queue : IsQueue sizes.queue

-- sizes that a pool of these limits may be resized to: a core size up to the maximum size, which is from 1 to that of the limits
abbrev pub AreSizesWithin : Sizes → ℕ → ℕ → Type 0
AreSizesWithin limits core max = (core ≤ max) × (1 ≤ max) × (max ≤ limits.max)

-- why sizes are refused: the first of the three that is out of its range
abbrev pub IsSizeRefusal : Sizes → JdkError → Type 0
IsSizeRefusal sizes refused.CoreOutOfRange = ¬ IsCore sizes.core
IsSizeRefusal sizes refused.MaxOutOfRange = IsCore sizes.core × ¬ IsMax sizes.core sizes.max
IsSizeRefusal sizes refused.QueueOutOfRange = IsCore sizes.core × IsMax sizes.core sizes.max × ¬ IsQueue sizes.queue
IsSizeRefusal sizes refused.Memory = ⊥
