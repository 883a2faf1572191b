-- The bulkheads that a `run` makes from a registry.
use Rattle.std.specs.Prelude.{ℕ, ◌≡◌, List, slice_get, option_map}
use Rattle.resil_bulkhead.specs.Bulkhead.{BulkheadView}
use Rattle.resil_registry.specs.Registry.{RegistryView, instance_at}

-- the name of a bulkhead, and how many concurrent calls it permits
abbrev pub made_as : BulkheadView → List ℕ × ℕ
made_as bulkhead = (bulkhead.name, bulkhead.permits.max)

-- A bulkhead for each id of the registry: its name is the instance's, and its number of permits is
-- that of the instance's configuration.
abbrev pub AreMadeFrom : RegistryView ℕ → List BulkheadView → Type 0
AreMadeFrom registry bulkheads = (id : ℕ) → option_map made_as (slice_get bulkheads id) ≡ instance_at registry id
