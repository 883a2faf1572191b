-- The bulkheads of a head: the configurations of its table `permits`, and the ids that its layers obtain.
use Rattle.std.specs.Prelude.{ℕ, ◌^◌, not, ◌&&◌, Bool, is_some, List, [], ◌∷◌, Option, Some, None, Result, Ok, Err, if◌then◌else◌, codes, length, nat_lt, nat_le}
use Rattle.std.specs.List.{list_all}
use Rattle.toml.specs.Data.{Data, Members, no_members}
use Rattle.resil_registry.specs.Name.{is_name_byte}
use Rattle.resil_registry.specs.Registry.{RegistryView, config_index, instance_id, with_config, with_instance, default_name}
use Rattle.resil_registry.specs.declared.error.RegistryError.{RegistryError}
use Rattle.resil_registry.specs.declared.error.RegistryError.TheVariants as registry
use Rattle.resil_heads.specs.Checks.{and_then}
use Rattle.resil_heads.specs.Keys.{number_below, parse_at, parse_integer, parse_table}
use Rattle.resil_input.specs.TextEquality.{is_same}
use Rattle.resil_heads.specs.declared.layers.bulkheads.ConfigSpec.{ConfigSpec}
use Rattle.resil_heads.specs.declared.error.HeadError.{HeadError}
use Rattle.resil_heads.specs.declared.error.HeadError.TheVariants as error

-- the table of configurations, empty if there is none
abbrev pub permits_in : Members → Result Members HeadError
permits_in head = parse_at parse_table no_members (codes "permits") head

-- a value that is a number of permits from 0 to 65,535
abbrev pub parse_permits : Data → Result ℕ HeadError
parse_permits value = and_then (parse_integer value) (number_below (2 ^ 16))

-- a configuration: a key of the table `permits`, and the number of permits at it
abbrev pub parse_config : List ℕ × Data → Result ConfigSpec HeadError
parse_config entry = and_then (parse_permits entry.1) (λ permits. Ok (record { name = entry.0; permits = permits }))

-- the error of a head if a registry refuses a part of it
abbrev pub registry_error : RegistryError → HeadError
registry_error registry.ReservedName = error.Registry registry.ReservedName
registry_error registry.NoSuchConfig = error.Registry registry.NoSuchConfig
registry_error registry.NameTaken = error.Registry registry.NameTaken
registry_error registry.BadName = error.Registry registry.BadName
registry_error registry.Memory = error.Memory

-- a string that may be a name: 1 to 64 bytes, each of them one that names may have
abbrev pub is_good_name : List ℕ → Bool
is_good_name name = nat_le 1 (length name) && nat_le (length name) 64 && list_all is_name_byte name

-- the registry with only the default configuration, of 25 permits
abbrev pub unconfigured : RegistryView ℕ
unconfigured = record { configurations = (default_name, 25) ∷ []; instances = [] }

-- the registry with one more configuration; the name is checked as a string, then against `default`, then against the names that are there
abbrev pub with_configuration : RegistryView ℕ → ConfigSpec → Result (RegistryView ℕ) HeadError
with_configuration lists said =
    if not (is_good_name said.name) then Err (error.Registry registry.BadName)
    else if is_same said.name default_name then Err (error.Registry registry.ReservedName)
    else if is_some (config_index lists said.name) then Err (error.Registry registry.NameTaken)
    else Ok (with_config lists said.name said.permits)

-- the registry with these configurations, each added in turn
abbrev pub configured : RegistryView ℕ → List ConfigSpec → Result (RegistryView ℕ) HeadError
configured lists [] = Ok lists
configured lists (said ∷ more) = and_then (with_configuration lists said) (λ next. configured next more)

-- an id, and the registry after it was obtained
pub record Obtained : Type 0 where
  pub id : ℕ
  pub lists : RegistryView ℕ

-- a bulkhead that isn't there yet: its id is the number of those before it, and it has the configuration at this index
abbrev pub obtained_new : RegistryView ℕ → List ℕ → Option ℕ → Result Obtained HeadError
obtained_new lists name None = Err (error.Registry registry.NoSuchConfig)
obtained_new lists name (Some place) = Ok (record { id = length lists.instances; lists = with_instance lists name place })

-- the bulkhead of that name; if there is one already, no configuration is looked up
abbrev pub obtained_with : RegistryView ℕ → List ℕ → List ℕ → Option ℕ → Result Obtained HeadError
obtained_with lists name config None = obtained_new lists name (config_index lists config)
obtained_with lists name config (Some id) = Ok (record { id = id; lists = lists })

-- the bulkhead of that name, if the string may be a name
abbrev pub obtained : RegistryView ℕ → List ℕ → List ℕ → Result Obtained HeadError
obtained lists name config =
    if not (is_good_name name) then Err (error.Registry registry.BadName)
    else obtained_with lists name config (instance_id lists name)

-- the id as a layer has it: one above 65,535 becomes 65,535, but no chain has that many layers
abbrev pub layer_id : ℕ → ℕ
layer_id id = if nat_lt id (2 ^ 16) then id else 65535
