-- What a text says of bulkheads, and the bulkheads made from it.
use Rattle.std.specs.Prelude.{◌≡◌, ℕ, ◌*◌, List, [], ◌∷◌, ◌++◌, Option, Some, Ok, slice_get, option_and_then}
use Rattle.std.specs.Duration.{as_nanos}
use Rattle.std.specs.List.{AllZip}
use Rattle.std.specs.Option.{option_map_or}
use Rattle.std.specs.declared.time.Duration.{Duration}
use Rattle.toml.specs.Data.{Members}
use Rattle.toml.specs.Parse.{parse_document}
use Rattle.resil_bulkhead.specs.Bulkhead.{BulkheadView}
use Rattle.resil_registry.specs.Registry.{RegistryView, config_of}
use Rattle.resil_heads.specs.Bulkheads.{parse_configurations, bulkhead_tables, parse_bulkhead_table, text_keys}
use Rattle.resil_heads.specs.Document.{check_known}
use Rattle.resil_bulkheads.specs.Bulkheads.{BulkheadsView}
use Rattle.resil_heads.specs.declared.bulkheads.BulkheadSpec.{BulkheadSpec}

-- a bulkhead has the name that its table says, and the permits of the configuration that it says
pub record IsBulkheadSaid (lists : RegistryView ℕ) (keys : Members) (bulkhead : BulkheadView) : Type 0 where
  pub said : BulkheadSpec
  pub read : parse_bulkhead_table keys ≡ Ok said
  pub name : bulkhead.name ≡ said.name
  pub permits : config_of lists said.config ≡ Some bulkhead.permits.max

-- a wait is as long as the table of its bulkhead says
pub record IsWaitSaid (keys : Members) (wait : Duration) : Type 0 where
  pub said : BulkheadSpec
  pub read : parse_bulkhead_table keys ≡ Ok said
  pub long : as_nanos wait ≡ said.wait * 1000000

-- one more bulkhead, the last of all, as its table says
pub record AddsSaid (old : BulkheadsView) (keys : Members) (new : BulkheadsView) : Type 0 where
  pub bulkhead : BulkheadView
  pub last : new.bulkheads ≡ old.bulkheads ++ bulkhead ∷ []
  pub said : IsBulkheadSaid old.lists keys bulkhead

-- one more wait, the last of all, as its table says
pub record AddsWait (old : List Duration) (keys : Members) (new : List Duration) : Type 0 where
  pub wait : Duration
  pub last : new ≡ old ++ wait ∷ []
  pub said : IsWaitSaid keys wait

-- a text is read: it has no keys but these two, its configurations are those of its table `permits` besides `default`, and each table of
-- its array `bulkhead` says one bulkhead and its wait, in order
pub record AreSaid (text : List ℕ) (bulkheads : List BulkheadView) (waits : List Duration) : Type 0 where
  pub said : Members
  pub parsed : parse_document text ≡ Some said
  pub known : check_known text_keys said ≡ Ok tt
  pub lists : RegistryView ℕ
  pub configured : parse_configurations said ≡ Ok lists
  pub tables : List Members
  pub listed : bulkhead_tables said ≡ Ok tables
  pub each : AllZip (IsBulkheadSaid lists) tables bulkheads
  pub each_wait : AllZip IsWaitSaid tables waits

-- the nanoseconds of the wait at an id, 0 if there is no wait
abbrev pub wait_at : List Duration → Option ℕ → ℕ
wait_at waits id = option_map_or as_nanos (option_and_then (λ i. slice_get waits i) id) 0
