-- A registry as two lists, and what it keeps true.
use Rattle.std.specs.Prelude.{◌≡◌, ◌≢◌, ℕ, ◌<◌, List, ◌∷◌, [], ◌++◌, length, Option, Some, None, IsSome, All, codes, slice_get, option_map, option_and_then}
use Rattle.resil_registry.specs.Entries.{names_of, index_of}
use Rattle.resil_name.specs.Name.{IsName}
use Rattle.resil_registry.specs.declared.error.RegistryError.{RegistryError}
use Rattle.resil_registry.specs.declared.error.RegistryError.TheVariants.{ReservedName, NoSuchConfig, NameTaken, BadName, Memory}

-- the name of the configuration that a registry is made with
abbrev pub default_name : List ℕ
default_name = codes "default"

-- configurations: each a name and a value; instances: each a name and the index of its configuration
pub record RegistryView (C : Type 0) : Type 0 where
  pub configurations : List (List ℕ × C)
  pub instances : List (List ℕ × ℕ)

module _ {C : Type 0} where
  -- the index of the configuration with that name
  abbrev pub config_index : RegistryView C → List ℕ → Option ℕ
  config_index lists name = index_of name lists.configurations

  -- the configuration with that name
  abbrev pub config_of : RegistryView C → List ℕ → Option C
  config_of lists name = option_and_then (λ index. option_map (λ entry. entry.1) (slice_get lists.configurations index)) (config_index lists name)

  -- the id of the instance with that name: its index, from 0
  abbrev pub instance_id : RegistryView C → List ℕ → Option ℕ
  instance_id lists name = index_of name lists.instances

  -- the name and the configuration of the instance with that id
  abbrev pub instance_at : RegistryView C → ℕ → Option (List ℕ × C)
  instance_at lists id =
      option_and_then
      (λ instance. option_map (λ config. (instance.0, config.1)) (slice_get lists.configurations instance.1))
      (slice_get lists.instances id)

  -- the registry with one more configuration, at the end
  abbrev pub with_config : RegistryView C → List ℕ → C → RegistryView C
  with_config lists name config = record lists { configurations = lists.configurations ++ (name, config) ∷ [] }

  -- the registry with one more instance, at the end, which has the configuration at that index
  abbrev pub with_instance : RegistryView C → List ℕ → ℕ → RegistryView C
  with_instance lists name index = record lists { instances = lists.instances ++ (name, index) ∷ [] }

  -- an instance was made with the named configuration, and its id is the number of those before it
  pub record CreatesInstance (old : RegistryView C) (name config : List ℕ) (id : ℕ) (new : RegistryView C) : Type 0 where
    pub index : ℕ
    pub configured : config_index old config ≡ Some index
    pub numbered : id ≡ length old.instances
    pub appended : new ≡ with_instance old name index

  -- a name that a new configuration may have
  pub record IsFreeName (lists : RegistryView C) (name : List ℕ) : Type 0 where
    pub good : IsName name
    pub unreserved : name ≢ default_name
    pub new : config_index lists name ≡ None

  -- why a configuration wasn't added
  abbrev pub IsConfigError : RegistryView C → List ℕ → RegistryError → Type 0
  IsConfigError lists name BadName = ¬ IsName name
  IsConfigError lists name ReservedName = IsName name × (name ≡ default_name)
  IsConfigError lists name NameTaken = IsName name × (name ≢ default_name) × IsSome (config_index lists name)
  IsConfigError lists name Memory = IsFreeName lists name
  IsConfigError lists name NoSuchConfig = ⊥

  -- why an instance with the named configuration wasn't made
  abbrev pub IsInstanceError : RegistryView C → List ℕ → List ℕ → RegistryError → Type 0
  IsInstanceError lists name config BadName = ¬ IsName name
  IsInstanceError lists name config NoSuchConfig = IsName name × (instance_id lists name ≡ None) × (config_index lists config ≡ None)
  IsInstanceError lists name config Memory = IsName name × (instance_id lists name ≡ None) × IsSome (config_index lists config)
  IsInstanceError lists name config ReservedName = ⊥
  IsInstanceError lists name config NameTaken = ⊥

  -- the first configuration is the default, and each instance has a good name and a configuration
  pub record RegistryInvariant (lists : RegistryView C) : Type 0 where
    pub default_first : config_index lists default_name ≡ Some 0
    pub named : All IsName (names_of lists.instances)
    pub configured : All (λ instance. instance.1 < length lists.configurations) lists.instances
