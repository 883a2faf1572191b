-- The sizes of a pool, which may have more workers than `Limits` allows: which are allowed, and which a resize may set.
use Rattle.std.specs.Prelude.{ℕ, ◌≤◌, nat_lt, if◌then◌else◌}
use Rattle.resil_rule.specs.Limits.{Sizes, IsQueue, AreSizesWithin, most_workers}
use Rattle.resil_rule.specs.declared.error.AdmitError.{AdmitError}
use Rattle.resil_rule.specs.declared.error.AdmitError.TheVariants as refused

-- the largest size of a pool for your own jobs, in workers; `Sizes` has it for code
abbrev pub most_wide_workers : ℕ
most_wide_workers = 1024

-- a core size is from 1 to 1,024
abbrev pub IsWideCore : ℕ → Type 0
IsWideCore core = (1 ≤ core) × (core ≤ most_wide_workers)

-- a maximum size is from the core size to 1,024
abbrev pub IsWideMax : ℕ → ℕ → Type 0
IsWideMax core max = (core ≤ max) × (max ≤ most_wide_workers)

-- sizes that a pool may have
pub record AreSizes (sizes : Sizes) : Type 0 where
  pub core : IsWideCore sizes.core
  pub max : IsWideMax sizes.core sizes.max
  pub queue : IsQueue sizes.queue

-- why sizes are refused: the first of the three that is out of its range
abbrev pub IsSizesRefusal : Sizes → AdmitError → Type 0
IsSizesRefusal sizes refused.CoreOutOfRange = ¬ IsWideCore sizes.core
IsSizesRefusal sizes refused.MaxOutOfRange = IsWideCore sizes.core × ¬ IsWideMax sizes.core sizes.max
IsSizesRefusal sizes refused.QueueOutOfRange = IsWideCore sizes.core × IsWideMax sizes.core sizes.max × ¬ IsQueue sizes.queue
IsSizesRefusal sizes _ = ⊥

-- the largest core size that a resize may set: 64, or 1,024 in a pool that was opened for more than 64 workers
abbrev pub most_core : Sizes → ℕ
most_core sizes = if nat_lt most_workers sizes.max then most_wide_workers else most_workers

abbrev pub IsCoreOf : Sizes → ℕ → Type 0
IsCoreOf sizes core = (1 ≤ core) × (core ≤ most_core sizes)

-- why a pool of these sizes isn't resized: its core size isn't from 1 to the largest one that a resize may set; or it is, and the
-- maximum size is less than the core size or greater than the maximum size at the opening; or it is out of memory
abbrev pub IsRefusedResize : Sizes → ℕ → ℕ → AdmitError → Type 0
IsRefusedResize sizes core max refused.CoreOutOfRange = ¬ IsCoreOf sizes core
IsRefusedResize sizes core max refused.MaxOutOfRange = IsCoreOf sizes core × ¬ AreSizesWithin sizes core max
IsRefusedResize sizes core max refused.Memory = AreSizesWithin sizes core max
IsRefusedResize sizes core max _ = ⊥
