-- Laws of ranges: what is built of a head is in its ranges, for any head.
use Rattle.std.proofs.Common.{◌≡◌, ◌≤◌, ◌<◌, ◌+◌, ◌^◌, ◌∙◌, ◌∷◌, ℕ, ℤ, pos, negsuc, Bool, true, false, cond, List, [], Option, Some, None, IfOk, Result, Ok, Err, length, length-append, All, refl, sym, ap, subst, arith}
use Rattle.std.proofs.lemmas.Bool.Decides.{nat_tests}
use Rattle.std.proofs.lemmas.List.Elements.{All-cons, All-head, All-nil, All-push, All-tail}
use Rattle.std.proofs.lemmas.List.Quantifiers.{position-Some}
use Rattle.std.proofs.lemmas.List.{length-map}
use Rattle.std.proofs.lemmas.Nat.{mul-le}
use Rattle.std.specs.Str.{bytes_eq}
use Rattle.resil_registry.specs.Entries.{names_of, index_of}
use Rattle.resil_heads.specs.ByteOrder.{in_byte_order}
use Rattle.toml.specs.Data.{Data, Members}
use Rattle.resil_decor.specs.ChainLimits.{attempts_of, max_calls, IsChain}
use Rattle.resil_decor.specs.declared.layer.Layer.{Layer}
use Rattle.resil_decor.specs.declared.layer.Layer.TheVariants as layer
use Rattle.resil_registry.specs.Registry.{RegistryView, config_index, instance_id, with_instance, default_name}
use Rattle.resil_retry.specs.Interval.{IsBackoff}
use Rattle.resil_retry.specs.declared.interval.Backoff.{Backoff}
use Rattle.resil_heads.specs.Checks.{Gives, and_then}
use Rattle.resil_heads.specs.LayerBuild.{BuiltLayer, BuiltLayers, build_settings, chain_from_layers, build_interval, build_layer, build_layers, build_retry}
use Rattle.resil_heads.specs.LayerBulkheads.{Obtained, parse_config, configured, layer_id, obtained, obtained_new, obtained_with, permits_in, parse_permits, unconfigured, with_configuration}
use Rattle.resil_heads.specs.Document.{Keys}
use Rattle.resil_heads.specs.Keys.{each, number_below, parse_integer}
use Rattle.resil_heads.specs.LayerValues.{requested_layers}
use Rattle.resil_heads.specs.Layers.{ChainSpecView, build_chain, parse_chain}
use Rattle.resil_heads.specs.Ranges.{ArePermitsInRange, AreLayersInRange, IsLayerInRange, IsRetryInRange}
use Rattle.resil_heads.specs.declared.layers.bulkheads.ConfigSpec.{ConfigSpec}
use Rattle.resil_heads.specs.declared.layers.values.IntervalSpec.{IntervalSpec}
use Rattle.resil_heads.specs.declared.layers.values.IntervalSpec.TheVariants.{Fixed, Exponential}
use Rattle.resil_heads.specs.declared.layers.values.RetrySpec.{RetrySpec}
use Rattle.resil_heads.specs.declared.layers.values.LayerSpec.{LayerSpec}
use Rattle.resil_heads.specs.declared.layers.values.LayerSpec.TheVariants.{Retry, Bulkhead, Fallback}
use Rattle.resil_heads.specs.declared.error.HeadError.{HeadError}

-- ---- Checks.

-- what a check gives of what the checks before it let through
pub then-ok : {A B : Type 0} (P : A → Type 0) (Q : B → Type 0) (r : Result A HeadError) (check : A → Result B HeadError)
    → IfOk r P → ((x : A) → P x → IfOk (check x) Q) → IfOk (and_then r check) Q
then-ok P Q (Ok x) check p q = q x p
then-ok P Q (Err why) check p q = tt

pub any-ok : {A : Type 0} (r : Result A HeadError) → IfOk r (λ _. Unit {0})
any-ok (Ok x) = tt
any-ok (Err why) = tt

-- what a test lets through
passed : {A : Type 0} (P : A → Type 0) (fails : Bool) (why : HeadError) (r : Result A HeadError) → (fails ≡ false → IfOk r P) → IfOk (cond fails (Err why) r) P
passed P true why r h = tt
passed P false why r h = h refl

each-ok : {A B : Type 0} (P : B → Type 0) (read : A → Result B HeadError) → ((x : A) → IfOk (read x) P) → (xs : List A) → IfOk (each read xs) (All P)
each-ok P read h [] = All-nil P
each-ok P read h (x ∷ xs) =
    then-ok P (All P) (read x) (λ y. and_then (each read xs) (λ ys. Ok (y ∷ ys))) (h x) (λ y p.
    then-ok (All P) (All P) (each read xs) (λ ys. Ok (y ∷ ys)) (each-ok P read h xs) (λ ys ps. All-cons P y ys p ps))

-- the result of a call, by what is said of it
pub gives-ok : {A : Type 0} (P : A → Type 0) (r said : Result A HeadError) → Gives r said → IfOk said P → IfOk r P
gives-ok P (Ok x) said given h = subst (λ s. IfOk s P) given h
gives-ok P (Err why) said given h = tt

-- ---- Retries.

interval-allowed : (said : IntervalSpec) → IfOk (build_interval said) IsBackoff
interval-allowed (Fixed ms) = grind (arith, nat_tests)
interval-allowed (Exponential initial numerator denominator most_ms) = grind (arith, nat_tests)

attempts-allowed : (said : RetrySpec) (waits : Backoff) → IsBackoff waits → IfOk (build_settings said waits) IsRetryInRange
attempts-allowed said waits allowed = grind (arith, nat_tests, allowed)

retry-allowed : (said : RetrySpec) → IfOk (build_retry said) IsRetryInRange
retry-allowed said = then-ok IsBackoff IsRetryInRange (build_interval said.interval) (build_settings said) (interval-allowed said.interval) (attempts-allowed said)

-- ---- Bulkheads.

index_of-within : {V : Type 0} (name : List ℕ) (entries : List (List ℕ × V)) (i : ℕ) → index_of name entries ≡ Some i → i < length entries
index_of-within name entries i at =
    let found = position-Some (bytes_eq name) (names_of entries) i [] at in
    omega (arith, found.0, length-map entries (λ entry. entry.0))

-- a registry after a layer: its bulkheads are those before, and at most this number more
record Grows (more : ℕ) (old new : RegistryView ℕ) : Type 0 where
  pub least : length old.instances ≤ length new.instances
  pub most : length new.instances ≤ length old.instances + more
  pub configurations : new.configurations ≡ old.configurations

grows-not : (more : ℕ) (lists : RegistryView ℕ) → Grows more lists lists
grows-not more lists = record { least = omega arith; most = omega arith; configurations = refl }

grows-on : (more further : ℕ) (old next new : RegistryView ℕ) → Grows more old next → Grows further next new → Grows (more + further) old new
grows-on more further old next new a b = record {
  least = omega (arith, a.least, b.least);
  most = omega (arith, a.most, b.most);
  configurations = b.configurations ∙ a.configurations;
}

abbrev IsObtained : RegistryView ℕ → Obtained → Type 0
IsObtained lists got = (got.id < length got.lists.instances) × Grows 1 lists got.lists

obtained-new-ok : (lists : RegistryView ℕ) (name : List ℕ) (place : Option ℕ) → IfOk (obtained_new lists name place) (IsObtained lists)
obtained-new-ok lists name None = tt
obtained-new-ok lists name (Some place) =
    let one : length (with_instance lists name place).instances ≡ length lists.instances + 1 = length-append lists.instances ((name, place) ∷ []) in
    (omega (arith, one), record { least = omega (arith, one); most = omega (arith, one); configurations = refl })

obtained-with-ok : (lists : RegistryView ℕ) (name config : List ℕ) (id : Option ℕ) → instance_id lists name ≡ id → IfOk (obtained_with lists name config id) (IsObtained lists)
obtained-with-ok lists name config None is = obtained-new-ok lists name (config_index lists config)
obtained-with-ok lists name config (Some id) is = (index_of-within name lists.instances id is, grows-not 1 lists)

obtained-ok : (lists : RegistryView ℕ) (name config : List ℕ) → IfOk (obtained lists name config) (IsObtained lists)
obtained-ok lists name config = passed (IsObtained lists) _ _ _ (λ good. obtained-with-ok lists name config (instance_id lists name) refl)

layer_id-most : (id : ℕ) → layer_id id ≤ id
layer_id-most id = grind (arith, nat_tests)

-- ---- Layers.

pub in-range-later : (few many : ℕ) → few ≤ many → (l : Layer) → IsLayerInRange few l → IsLayerInRange many l
in-range-later few many h (layer.Retry settings) r = r
in-range-later few many h (layer.Bulkhead id) r = omega (arith, h, r)
in-range-later few many h (layer.Fallback catch value) r = tt

abbrev IsAllowed : RegistryView ℕ → BuiltLayer → Type 0
IsAllowed lists a = IsLayerInRange (length a.lists.instances) a.layer × Grows 1 lists a.lists

layer-ok : (lists : RegistryView ℕ) (said : LayerSpec) → IfOk (build_layer lists said) (IsAllowed lists)
layer-ok lists (Retry said) = then-ok IsRetryInRange (IsAllowed lists) (build_retry said) _ (retry-allowed said) (λ settings r. (r, grows-not 1 lists))
layer-ok lists (Bulkhead name config) = then-ok (IsObtained lists) (IsAllowed lists) (obtained lists name config) _ (obtained-ok lists name config) (λ got o. (omega (arith, layer_id-most got.id, o.0), o.1))
layer-ok lists (Fallback catch value) = (tt, grows-not 1 lists)

abbrev AreAllowed : RegistryView ℕ → BuiltLayers → Type 0
AreAllowed lists r = All (IsLayerInRange (length r.lists.instances)) r.layers × Grows (length r.layers) lists r.lists

layers-ok : (lists : RegistryView ℕ) (said : List LayerSpec) → IfOk (build_layers lists said) (AreAllowed lists)
layers-ok lists [] = (All-nil (IsLayerInRange (length lists.instances)), grows-not 0 lists)
layers-ok lists (x ∷ said) =
    then-ok (IsAllowed lists) (AreAllowed lists) (build_layer lists x) _ (layer-ok lists x) (λ a one.
    then-ok (AreAllowed a.lists) (AreAllowed lists) (build_layers a.lists said) _ (layers-ok a.lists said) (λ rest all. (
      All-cons (IsLayerInRange (length rest.lists.instances)) a.layer rest.layers (in-range-later _ _ all.1.least a.layer one.0) all.0,
      subst (λ n. Grows n lists rest.lists) (omega arith) (grows-on 1 (length rest.layers) lists a.lists rest.lists one.1 all.1),
    )))

-- ---- Chains.

attempts-some : (n : ℕ) (l : Layer) → IsLayerInRange n l → 1 ≤ attempts_of l
attempts-some n (layer.Retry settings) r = r.1
attempts-some n (layer.Bulkhead id) r = omega arith
attempts-some n (layer.Fallback catch value) r = omega arith

max_calls-some : (n : ℕ) (layers : List Layer) → All (IsLayerInRange n) layers → 1 ≤ max_calls layers
unfolding max_calls
max_calls-some n [] all = omega arith
max_calls-some n (l ∷ layers) all =
    mul-le 1 1 (attempts_of l) (max_calls layers) (attempts-some n l (All-head (IsLayerInRange n) l layers all)) (max_calls-some n layers (All-tail (IsLayerInRange n) l layers all))

abbrev IsChainOf : List Layer → List Layer → Type 0
IsChainOf layers chain = IsChain chain × (chain ≡ layers)

chain-ok : (n : ℕ) (layers : List Layer) → All (IsLayerInRange n) layers → IfOk (chain_from_layers layers) (IsChainOf layers)
chain-ok n layers all = let some = max_calls-some n layers all in grind (arith, nat_tests, some)

-- ---- Configurations.

abbrev pub HasPermits : ConfigSpec → Type 0
HasPermits said = said.permits < 2 ^ 16

permits-ok : (z : ℤ) → IfOk (number_below (2 ^ 16) z) (λ permits. permits < 2 ^ 16)
permits-ok (pos n) = grind (arith, nat_tests)
permits-ok (negsuc n) = tt

configuration-ok : (entry : List ℕ × Data) → IfOk (parse_config entry) HasPermits
configuration-ok entry =
    then-ok (λ permits. permits < 2 ^ 16) HasPermits (parse_permits entry.1) _
    (then-ok (λ _. Unit {0}) (λ permits. permits < 2 ^ 16) (parse_integer entry.1) (number_below (2 ^ 16)) (any-ok (parse_integer entry.1)) (λ z _. permits-ok z))
    (λ permits few. few)

abbrev AreConfigured : RegistryView ℕ → RegistryView ℕ → Type 0
AreConfigured old new = ArePermitsInRange new × (new.instances ≡ old.instances)

with-configuration-ok : (lists : RegistryView ℕ) (said : ConfigSpec) → ArePermitsInRange lists → HasPermits said → IfOk (with_configuration lists said) (AreConfigured lists)
with-configuration-ok lists said all few =
    let more = All-push (λ (configuration : List ℕ × ℕ). configuration.1 < 2 ^ 16) lists.configurations (said.name, said.permits) all few in
    grind (arith, more)

configured-ok : (lists : RegistryView ℕ) (said : List ConfigSpec) → ArePermitsInRange lists → All HasPermits said → IfOk (configured lists said) (AreConfigured lists)
configured-ok lists [] all few = (all, refl)
configured-ok lists (x ∷ said) all few =
    then-ok (AreConfigured lists) (AreConfigured lists) (with_configuration lists x) (λ next. configured next said)
    (with-configuration-ok lists x all (All-head HasPermits x said few)) (λ next one.
    subst (λ instances. IfOk (configured next said) (λ new. ArePermitsInRange new × (new.instances ≡ instances))) one.1
    (configured-ok next said one.0 (All-tail HasPermits x said few)))

unconfigured-ok : ArePermitsInRange unconfigured
unconfigured-ok = All-cons (λ (c : List ℕ × ℕ). c.1 < 2 ^ 16) (default_name, 25) [] (omega arith) (All-nil (λ (c : List ℕ × ℕ). c.1 < 2 ^ 16))

-- ---- Heads.

abbrev pub AreAsked : ChainSpecView → Type 0
AreAsked asked = All HasPermits asked.configurations

pub asked-ok : (keys : Keys) (head : Members) → IfOk (parse_chain keys head) AreAsked
unfolding parse_chain
asked-ok keys head =
    then-ok (λ _. Unit {0}) AreAsked (permits_in head) _ (any-ok (permits_in head)) (λ permits _.
    then-ok (λ _. Unit {0}) AreAsked (requested_layers keys head) _ (any-ok (requested_layers keys head)) (λ layers _.
    then-ok (All HasPermits) AreAsked (each parse_config (in_byte_order permits)) _ (each-ok HasPermits parse_config configuration-ok (in_byte_order permits)) (λ configurations all. all)))

-- what is built of a head
pub record IsBuilt (built : BuiltLayers) : Type 0 where
  pub layers : AreLayersInRange (length built.lists.instances) built.layers
  pub few : length built.lists.instances ≤ length built.layers
  pub permits : ArePermitsInRange built.lists

pub built-ok : (asked : ChainSpecView) → AreAsked asked → IfOk (build_chain asked) IsBuilt
unfolding build_chain
built-ok asked all =
    then-ok (AreConfigured unconfigured) IsBuilt (configured unconfigured asked.configurations) _ (configured-ok unconfigured asked.configurations unconfigured-ok all) (λ lists made.
    then-ok (AreAllowed lists) IsBuilt (build_layers lists asked.layers) _ (layers-ok lists asked.layers) (λ allowed grown.
    then-ok (IsChainOf allowed.layers) IsBuilt (chain_from_layers allowed.layers) _ (chain-ok (length allowed.lists.instances) allowed.layers grown.0) (λ layers chain.
    let none : length lists.instances ≡ 0 = ap length made.1 in
    record {
      layers = (chain.0, subst (All (IsLayerInRange (length allowed.lists.instances))) (sym chain.1) grown.0);
      few = omega (arith, none, grown.1.most, ap length chain.1);
      permits = subst (All (λ configuration. configuration.1 < 2 ^ 16)) (sym grown.1.configurations) made.0;
    })))
