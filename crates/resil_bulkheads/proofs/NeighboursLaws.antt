-- What is read of a text: the registry of its configurations, and its tables one by one.
use Rattle.std.proofs.Common.{◌≡◌, ℕ, Bool, true, false, List, [], ◌∷◌, IsSome, Result, Ok, Err, is_ok, if◌then◌else◌, refl, sym, ap, ◌∙◌, subst}
use Rattle.std.proofs.lemmas.Bool.{false≢true}
use Rattle.std.specs.Str.{bytes_eq}
use Rattle.std.specs.Prelude.{not, is_some, slice_get, option_map, option_and_then}
use Rattle.toml.specs.Data.{Members}
use Rattle.resil_bulkheads.proofs.BulkheadsLaws.{config_of-longer}
use Rattle.resil_heads.specs.Bulkheads.{parse_configurations}
use Rattle.resil_heads.specs.ByteOrder.{in_byte_order}
use Rattle.resil_heads.specs.Checks.{and_then}
use Rattle.resil_heads.specs.LayerBulkheads.{parse_config, permits_in, configured, unconfigured, with_configuration, is_good_name}
use Rattle.resil_heads.specs.Keys.{each}
use Rattle.resil_heads.specs.declared.error.HeadError.{HeadError}
use Rattle.resil_heads.specs.declared.error.HeadError.TheVariants as error
use Rattle.resil_bulkhead.specs.Bulkhead.{BulkheadView}
use Rattle.resil_bulkheads.specs.Neighbours.{IsBulkheadSaid}
use Rattle.resil_registry.specs.Entries.{index_of}
use Rattle.resil_registry.specs.Registry.{RegistryView, default_name, config_index, config_of, with_config}
use Rattle.resil_registry.specs.declared.error.RegistryError.TheVariants as registry

abbrev given : {A : Type 0} → A → Result A HeadError → A
given other (Ok x) = x
given other (Err why) = other

-- what a check lets through, the check after it was given
and_then-Ok : {A B : Type 0} (r : Result A HeadError) (f : A → Result B HeadError) (y : B) → and_then r f ≡ Ok y → (x : A) × (r ≡ Ok x) × (f x ≡ Ok y)
and_then-Ok (Ok x) f y is = (x, refl, is)
and_then-Ok (Err why) f y is = absurd (false≢true (ap is_ok is))

chosen : (a b c : Bool) (why why' why'' : HeadError) (lists next : RegistryView ℕ)
    → (if a then Err why else if b then Err why' else if c then Err why'' else Ok lists) ≡ Ok next → next ≡ lists
chosen true b c why why' why'' lists next is = absurd (false≢true (ap is_ok is))
chosen false true c why why' why'' lists next is = absurd (false≢true (ap is_ok is))
chosen false false true why why' why'' lists next is = absurd (false≢true (ap is_ok is))
chosen false false false why why' why'' lists next is = sym (ap (given lists) is)

-- configurations that are added leave the instances and the configuration `default`
configured-keeps : (lists new : RegistryView ℕ) (said : List _) → configured lists said ≡ Ok new → IsSome (config_of lists default_name)
    → (new.instances ≡ lists.instances) × IsSome (config_of new default_name)
configured-keeps lists new [] is some =
    let same : lists ≡ new = ap (given lists) is in
    (ap (λ (l : RegistryView ℕ). l.instances) (sym same), subst (λ (l : RegistryView ℕ). IsSome (config_of l default_name)) same some)
configured-keeps lists new (x ∷ more) is some =
    let step = and_then-Ok (with_configuration lists x) (λ next. configured next more) new is in
    let next : step.0 ≡ with_config lists x.name x.permits =
    chosen (not (is_good_name x.name)) (bytes_eq x.name default_name) (is_some (config_index lists x.name))
    (error.Registry registry.BadName) (error.Registry registry.ReservedName) (error.Registry registry.NameTaken) (with_config lists x.name x.permits) step.0 step.1 in
    let kept = configured-keeps step.0 new more step.2 (subst (λ (l : RegistryView ℕ). IsSome (config_of l default_name)) (sym next) (config_of-longer lists x.name x.permits default_name some)) in
    (kept.0 ∙ ap (λ (l : RegistryView ℕ). l.instances) next, kept.1)

-- the registry of a text has no instance, and the configuration `default`
pub parse_configurations-keeps : (text : Members) (names : RegistryView ℕ) → parse_configurations text ≡ Ok names → (names.instances ≡ []) × IsSome (config_of names default_name)
unfolding parse_configurations
parse_configurations-keeps text names is =
    let permits = and_then-Ok (permits_in text) _ names is in
    let said = and_then-Ok (each parse_config (in_byte_order permits.0)) (λ said. configured unconfigured said) names permits.2 in
    configured-keeps unconfigured names said.0 said.2 refl

-- what a table says of a bulkhead rests on the configurations alone
pub said-along : (lists other : RegistryView ℕ) (keys : Members) (bulkhead : BulkheadView) → lists.configurations ≡ other.configurations
    → IsBulkheadSaid lists keys bulkhead → IsBulkheadSaid other keys bulkhead
said-along lists other keys bulkhead same one = record {
  said = one.said;
  read = one.read;
  name = one.name;
  permits =
      ap (λ (cs : List (List ℕ × ℕ)). option_and_then (λ i. option_map (λ (c : List ℕ × ℕ). c.1) (slice_get cs i)) (index_of one.said.config cs)) (sym same)
      ∙ one.permits;
}
