-- Laws of the bulkheads of a head.
use Rattle.std.proofs.Common.{◌≡◌, ◌≢◌, ◌∙◌, ◌∷◌, ◌++◌, ◌&&◌, ℕ, true, false, List, [], Option, Some, None, IfSome, IfNone, Result, Ok, Err, length, map, nat_le, string_bytes, append_assoc, refl, sym, ap}
use Rattle.std.proofs.lemmas.Bool.{and_from, and_parts, both_ways, false_from_ne_true, le-leb, leb-true, true_from_ne_false}
use Rattle.std.proofs.lemmas.List.Sums.{AllPass-from_list_all, list_all-from_AllPass}
use Rattle.std.specs.Cmp.Lexicographic.{bytes_decides}
use Rattle.std.specs.List.{list_all}
use Rattle.toml.specs.View.{members_view, view}
use Rattle.toml.proofs.Views.{Entry}
use Rattle.resil_decor.specs.declared.layer.Layer.{Layer}
use Rattle.resil_registry.specs.Name.{IsName, is_name_byte}
use Rattle.resil_registry.specs.Registry.{RegistryView, instance_id, with_config, IsConfigError, IsFreeName, IsInstanceError, CreatesInstance, default_name}
use Rattle.resil_registry.specs.declared.error.RegistryError.{RegistryError}
use Rattle.resil_registry.specs.declared.error.RegistryError.TheVariants.{ReservedName, NoSuchConfig, NameTaken, BadName, Memory}
use Rattle.resil_heads.specs.LayerBulkheads.{parse_config, is_good_name, obtained, obtained_with, registry_error, with_configuration}
use Rattle.resil_heads.specs.ByteOrder.{in_byte_order}
use Rattle.resil_heads.specs.LayerBuild.{BuiltLayers}
use Rattle.resil_heads.specs.Checks.{and_then}
use Rattle.resil_heads.specs.Keys.{each}
use Rattle.resil_input.specs.TextEquality.{is_same}
use Rattle.resil_heads.specs.declared.layers.bulkheads.ConfigSpec.{ConfigSpec}
use Rattle.resil_heads.specs.declared.error.HeadError.{HeadError}
use Rattle.resil_heads.specs.declared.error.HeadError.TheVariants as error
use Rattle.resil_heads.proofs.LayerLaws.{after, after_none, each_map}

-- ---- Names.

-- a name has the bytes of one
pub good-name : (name : List ℕ) → IsName name → is_good_name name ≡ true
good-name name good =
    and_from _ _ (and_from _ _ (le-leb 1 (length name) good.some) (le-leb (length name) 64 good.few)) (list_all-from_AllPass is_name_byte name good.plain)

name-from : (name : List ℕ) → is_good_name name ≡ true → IsName name
name-from name is =
    let parts = and_parts (nat_le 1 (length name) && nat_le (length name) 64) (list_all is_name_byte name) is in
    let size = and_parts (nat_le 1 (length name)) (nat_le (length name) 64) parts.0 in
    record { some = leb-true _ _ size.0; few = leb-true _ _ size.1; plain = AllPass-from_list_all is_name_byte name parts.1 }

-- and another text isn't one
pub bad-name : (name : List ℕ) → ¬ IsName name → is_good_name name ≡ false
bad-name name bad = false_from_ne_true (is_good_name name) (λ good. bad (name-from name good))

pub no-bad-name : (name : List ℕ) → ¬ ¬ IsName name → is_good_name name ≡ true
no-bad-name name good = true_from_ne_false (is_good_name name) (λ bad. good (λ named. both_ways (is_good_name name) bad (good-name name named)))

same : (a b : List ℕ) → a ≡ b → is_same a b ≡ true
same a b is = (bytes_decides a b).1 is

other : (a b : List ℕ) → a ≢ b → is_same a b ≡ false
other a b differ = false_from_ne_true (is_same a b) (λ is. differ ((bytes_decides a b).0 is))

-- ---- Configurations.

-- the entries of a map as members
pub in_byte_order-view : (entries : List Entry) → in_byte_order (members_view entries) ≡ map (λ (e : Entry). (string_bytes e.0, view e.1)) entries
in_byte_order-view [] = refl
in_byte_order-view (e ∷ entries) = ap (λ rest. (string_bytes e.0, view e.1) ∷ rest) (in_byte_order-view entries)

pub configurations_init : (entries : List Entry) (prefix : List ConfigSpec) → prefix ≡ []
    → after prefix (each (λ (e : Entry). parse_config (string_bytes e.0, view e.1)) entries) ≡ each parse_config (in_byte_order (members_view entries))
configurations_init entries prefix none =
    rw none (after_none _ ∙ sym (each_map parse_config (λ (e : Entry). (string_bytes e.0, view e.1)) entries) ∙ ap (each parse_config) (sym (in_byte_order-view entries)))

pub configuration_added : (lists : RegistryView ℕ) (said : ConfigSpec) → IsFreeName lists said.name → with_configuration lists said ≡ Ok (with_config lists said.name said.permits)
configuration_added lists said free = rw (good-name said.name free.good, other said.name default_name free.unreserved, free.new) refl

pub configuration_refused : (lists : RegistryView ℕ) (said : ConfigSpec) (why : RegistryError) → IsConfigError lists said.name why
    → registry_error why ≢ error.Memory → with_configuration lists said ≡ Err (registry_error why)
configuration_refused lists said BadName bad h = rw (bad-name said.name bad) refl
configuration_refused lists said ReservedName reserved h = rw (good-name said.name reserved.0, same said.name default_name reserved.1) refl
configuration_refused lists said NameTaken named h = rw (good-name said.name named.0, other said.name default_name named.1, named.2) refl
configuration_refused lists said Memory free h = absurd (h refl)
configuration_refused lists said NoSuchConfig never h = absurd never

-- ---- Bulkheads.

-- an id that a registry answers
abbrev answered : ℕ → Result ℕ RegistryError
answered id = Ok id

obtained-found : (lists new : RegistryView ℕ) (name config : List ℕ) (id : ℕ) (o : Option ℕ)
    → IfSome o (λ known. (answered id ≡ answered known) × (new ≡ lists)) → IfNone o (CreatesInstance lists name config id new)
    → obtained_with lists name config o ≡ Ok (record { id = id; lists = new })
obtained-found lists new name config id None known made = rw (made.configured, made.numbered, made.appended) refl
obtained-found lists new name config id (Some i) known made =
    let same : id ≡ i = cc (known.0) in
    rw (same, known.1) refl

pub obtained_given : (lists new : RegistryView ℕ) (name config : List ℕ) (id : ℕ) → ¬ ¬ IsName name
    → IfSome (instance_id lists name) (λ known. (answered id ≡ answered known) × (new ≡ lists)) → IfNone (instance_id lists name) (CreatesInstance lists name config id new)
    → obtained lists name config ≡ Ok (record { id = id; lists = new })
obtained_given lists new name config id good known made = rw (no-bad-name name good) (obtained-found lists new name config id (instance_id lists name) known made)

pub obtained_refused : (lists : RegistryView ℕ) (name config : List ℕ) (why : RegistryError) → IsInstanceError lists name config why
    → registry_error why ≢ error.Memory → obtained lists name config ≡ Err (registry_error why)
obtained_refused lists name config BadName bad h = rw (bad-name name bad) refl
obtained_refused lists name config NoSuchConfig none h = rw (good-name name none.0, none.1, none.2) refl
obtained_refused lists name config Memory free h = absurd (h refl)
obtained_refused lists name config ReservedName never h = absurd never
obtained_refused lists name config NameTaken never h = absurd never

-- ---- Layers.

-- the layers so far, and then what is built of those left
abbrev pub after_layers : List Layer → Result BuiltLayers HeadError → Result BuiltLayers HeadError
after_layers prefix rest = and_then rest (λ more. Ok (record { layers = prefix ++ more.layers; lists = more.lists }))

pub after_layers_next : (prefix : List Layer) (y : Layer) (built rest all : Result BuiltLayers HeadError)
    → built ≡ and_then rest (λ more. Ok (record { layers = y ∷ more.layers; lists = more.lists })) → after_layers prefix built ≡ all
    → after_layers (prefix ++ y ∷ []) rest ≡ all
after_layers_next prefix y built (Ok more) all is inv =
    ap (λ layers. Ok (record { layers = layers; lists = more.lists })) (append_assoc prefix (y ∷ []) more.layers) ∙ ap (after_layers prefix) (sym is) ∙ inv
after_layers_next prefix y built (Err why) all is inv = ap (after_layers prefix) (sym is) ∙ inv
