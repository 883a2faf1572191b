-- The ranges of what a head says, whatever its text is.
use Rattle.std.specs.Prelude.{ℕ, ◌^◌, ◌<◌, ◌≤◌, All, List}
use Rattle.resil_decor.specs.ChainLimits.{IsChain}
use Rattle.resil_decor.specs.declared.layer.Layer.{Layer}
use Rattle.resil_decor.specs.declared.layer.Layer.TheVariants.{Retry, Bulkhead, Fallback}
use Rattle.resil_registry.specs.Registry.{RegistryView}
use Rattle.resil_retry.specs.Config.{RetryConfigView, attempt_limit}
use Rattle.resil_retry.specs.Interval.{IsBackoff}

-- a retry of an interval that a retry takes, with 1 to 1,000 attempts
abbrev pub IsRetryInRange : RetryConfigView → Type 0
IsRetryInRange settings = IsBackoff settings.interval × (1 ≤ settings.max_attempts) × (settings.max_attempts ≤ attempt_limit)

-- a layer whose retry is in range, and whose bulkhead is one of this number of bulkheads, with ids from 0 on
abbrev pub IsLayerInRange : ℕ → Layer → Type 0
IsLayerInRange bulkheads (Retry settings) = IsRetryInRange settings
IsLayerInRange bulkheads (Bulkhead id) = id < bulkheads
IsLayerInRange bulkheads (Fallback catch value) = Unit {0}

-- layers that make a chain, each in range
abbrev pub AreLayersInRange : ℕ → List Layer → Type 0
AreLayersInRange bulkheads layers = IsChain layers × All (IsLayerInRange bulkheads) layers

-- each configuration has from 0 to 65,535 permits
abbrev pub ArePermitsInRange : RegistryView ℕ → Type 0
ArePermitsInRange lists = All (λ configuration. configuration.1 < 2 ^ 16) lists.configurations
