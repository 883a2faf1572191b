-- A registry that holds bulkheads: the lists of a registry of numbers, and the bulkhead of each instance.
use Rattle.std.specs.Prelude.{◌≡◌, ℕ, List, [], ◌∷◌, ◌++◌, Option, Some, IsSome, slice_get, option_map, option_and_then}
use Rattle.std.specs.List.{AllZip}
use Rattle.resil_bulkhead.specs.Bulkhead.{BulkheadView}
use Rattle.resil_registry.specs.Registry.{RegistryView, default_name, config_of, instance_id}

-- the configurations, each a name and a number of permits, and the instances; and the bulkheads, in order of id
pub record BulkheadsView : Type 0 where
  pub lists : RegistryView ℕ
  pub bulkheads : List BulkheadView

-- the one bulkhead with that name
abbrev pub bulkhead_of : BulkheadsView → List ℕ → Option BulkheadView
bulkhead_of view name = option_and_then (λ id. slice_get view.bulkheads id) (instance_id view.lists name)

-- a bulkhead has the name of its instance, and as many permits as its configuration says
pub record IsBulkheadOf (lists : RegistryView ℕ) (instance : List ℕ × ℕ) (bulkhead : BulkheadView) : Type 0 where
  pub name : bulkhead.name ≡ instance.0
  pub max : option_map (λ config. config.1) (slice_get lists.configurations instance.1) ≡ Some bulkhead.permits.max

-- each instance has one bulkhead, at its id, and the configuration `default` is there
pub record BulkheadsInvariant (view : BulkheadsView) : Type 0 where
  pub each : AllZip (IsBulkheadOf view.lists) view.lists.instances view.bulkheads
  pub default : IsSome (config_of view.lists default_name)

-- one more bulkhead, the last of all, of that name and with as many permits as the named configuration says
pub record AddsBulkhead (old : BulkheadsView) (name config : List ℕ) (bulkhead : BulkheadView) (new : BulkheadsView) : Type 0 where
  pub last : new.bulkheads ≡ old.bulkheads ++ bulkhead ∷ []
  pub named : bulkhead.name ≡ name
  pub permits : config_of old.lists config ≡ Some bulkhead.permits.max
