-- The instances of a registry, and the bulkhead of each.
use Rattle.std.proofs.Common.{◌≡◌, ℕ, suc, ◌+◌, ◌<◌, List, [], ◌∷◌, ◌++◌, length, Option, Some, None, IsSome, refl, sym, ap, ◌∙◌, subst, arith}
use Rattle.std.specs.List.{AllZip, position, position_from}
use Rattle.std.specs.Str.{bytes_eq}
use Rattle.std.specs.Prelude.{slice_get, option_map, option_and_then}
use Rattle.std.specs.Cmp.Lexicographic.{bytes_decides}
use Rattle.std.proofs.lemmas.Iterator.Adapters.{position_from-zero}
use Rattle.std.proofs.lemmas.Bool.{false≢true}
use Rattle.std.proofs.lemmas.List.Quantifiers.{position-Some}
use Rattle.resil_bulkhead.specs.Bulkhead.{BulkheadView}
use Rattle.resil_bulkheads.proofs.ListLaws.{AllZip-length, AllZip-append_one, AllZip-by, slice_get-longer, slice_get-last, position_from-last, position_from-longer}
use Rattle.resil_bulkheads.specs.Bulkheads.{BulkheadsView, IsBulkheadOf, BulkheadsInvariant, bulkhead_of}
use Rattle.resil_registry.specs.Entries.{names_of, index_of}
use Rattle.resil_registry.specs.Registry.{RegistryView, default_name, instance_id, config_index, config_of, with_config, with_instance}

-- one configuration more leaves each instance its bulkhead
pub each_with_config : (lists : RegistryView ℕ) (name : List ℕ) (max : ℕ) (bulkheads : List BulkheadView)
    → AllZip (IsBulkheadOf lists) lists.instances bulkheads → AllZip (IsBulkheadOf (with_config lists name max)) lists.instances bulkheads
each_with_config lists name max bulkheads all =
    AllZip-by (IsBulkheadOf lists) (IsBulkheadOf (with_config lists name max))
    (λ instance bulkhead is. record { name = is.name; max = slice_get-longer (λ (c : List ℕ × ℕ). c.1) lists.configurations ((name, max) ∷ []) instance.1 bulkhead.permits.max is.max })
    lists.instances bulkheads all

names_of-append : {V : Type 0} (entries : List (List ℕ × V)) (name : List ℕ) (v : V) → names_of (entries ++ (name, v) ∷ []) ≡ names_of entries ++ name ∷ []
names_of-append [] name v = refl
names_of-append (x ∷ xs) name v = ap (λ rest. x.0 ∷ rest) (names_of-append xs name v)

-- one entry more leaves each other name its index
index_of-longer : {V : Type 0} (entries : List (List ℕ × V)) (other : List ℕ) (v : V) (name : List ℕ) (i : ℕ) → index_of name entries ≡ Some i
    → index_of name (entries ++ (other, v) ∷ []) ≡ Some i
index_of-longer entries other v name i at =
    let test = bytes_eq name in
    ap (position test) (names_of-append entries other v)
    ∙ (position_from-zero test (names_of entries ++ other ∷ [])
    ∙ position_from-longer test 0 i (names_of entries) (other ∷ []) (sym (position_from-zero test (names_of entries)) ∙ at))

-- and each configuration what it is
pub config_of-longer : (lists : RegistryView ℕ) (other : List ℕ) (max : ℕ) (name : List ℕ) → IsSome (config_of lists name) → IsSome (config_of (with_config lists other max) name)
config_of-longer lists other max name is = by (config_index lists name) refl is
  where
    there : (o p : Option ℕ) → ((m : ℕ) → o ≡ Some m → p ≡ Some m) → IsSome o → IsSome p
    there None p same none = absurd (false≢true none)
    there (Some m) p same some = subst IsSome (sym (same m refl)) refl

    by : (o : Option ℕ) → config_index lists name ≡ o → IsSome (option_and_then (λ i. option_map (λ (c : List ℕ × ℕ). c.1) (slice_get lists.configurations i)) o)
        → IsSome (config_of (with_config lists other max) name)
    by None at none = absurd (false≢true none)
    by (Some i) at some =
        subst (λ (o : Option ℕ). IsSome (option_and_then (λ i. option_map (λ (c : List ℕ × ℕ). c.1) (slice_get (lists.configurations ++ (other, max) ∷ []) i)) o))
        (sym (index_of-longer lists.configurations other max name i at))
        (there _ _ (λ m. slice_get-longer (λ (c : List ℕ × ℕ). c.1) lists.configurations ((other, max) ∷ []) i m) some)

names_of-length : {V : Type 0} (entries : List (List ℕ × V)) → length (names_of entries) ≡ length entries
names_of-length [] = refl
names_of-length (x ∷ xs) = ap suc (names_of-length xs)

-- the id of an instance is below their number
pub instance_id-within : (lists : RegistryView ℕ) (name : List ℕ) (id : ℕ) → instance_id lists name ≡ Some id → id < length lists.instances
instance_id-within lists name id at =
    let found = position-Some (bytes_eq name) (names_of lists.instances) id [] at in
    let long = names_of-length lists.instances in
    let less = found.0 in omega arith

-- the id of an instance is below the number of bulkheads
pub bulkhead_id-within : (view : BulkheadsView) → BulkheadsInvariant view → (name : List ℕ) (id : ℕ) → instance_id view.lists name ≡ Some id → id < length view.bulkheads
bulkhead_id-within view inv name id at =
    let long = AllZip-length (IsBulkheadOf view.lists) view.lists.instances view.bulkheads inv.each in
    let less = instance_id-within view.lists name id at in omega arith

pub BulkheadsInvariant_with_config : (lists new : RegistryView ℕ) (name : List ℕ) (max : ℕ) (bulkheads : List BulkheadView) → new ≡ with_config lists name max
    → BulkheadsInvariant (record { lists = lists; bulkheads = bulkheads }) → BulkheadsInvariant (record { lists = new; bulkheads = bulkheads })
BulkheadsInvariant_with_config lists new name max bulkheads is inv =
    subst (λ (l : RegistryView ℕ). BulkheadsInvariant (record { lists = l; bulkheads = bulkheads })) (sym is)
    (record { each = each_with_config lists name max bulkheads inv.each; default = config_of-longer lists name max default_name inv.default })

-- one instance more, with its bulkhead
pub BulkheadsInvariant_with_instance : (lists new : RegistryView ℕ) (name config : List ℕ) (index : ℕ) (bulkheads : List BulkheadView) (bulkhead : BulkheadView) → new ≡ with_instance lists name index
    → config_index lists config ≡ Some index → bulkhead.name ≡ name → config_of lists config ≡ Some bulkhead.permits.max
    → BulkheadsInvariant (record { lists = lists; bulkheads = bulkheads }) → BulkheadsInvariant (record { lists = new; bulkheads = bulkheads ++ bulkhead ∷ [] })
BulkheadsInvariant_with_instance lists new name config index bulkheads bulkhead is at named maxed inv =
    let here : option_map (λ (c : List ℕ × ℕ). c.1) (slice_get lists.configurations index) ≡ Some bulkhead.permits.max = rw at at maxed in
    let same : AllZip (IsBulkheadOf (with_instance lists name index)) lists.instances bulkheads =
    AllZip-by (IsBulkheadOf lists) (IsBulkheadOf (with_instance lists name index)) (λ instance b one. record { name = one.name; max = one.max }) lists.instances bulkheads inv.each in
    subst (λ (l : RegistryView ℕ). BulkheadsInvariant (record { lists = l; bulkheads = bulkheads ++ bulkhead ∷ [] })) (sym is)
    (record { each = AllZip-append_one (IsBulkheadOf (with_instance lists name index)) lists.instances bulkheads (name, index) bulkhead same (record { name = named; max = here }); default = inv.default })

index_of-last : {V : Type 0} (entries : List (List ℕ × V)) (name : List ℕ) (v : V) → index_of name entries ≡ None → index_of name (entries ++ (name, v) ∷ []) ≡ Some (length entries)
index_of-last entries name v none =
    let test = bytes_eq name in
    let names = names_of entries in
    let none' : position_from test 0 names ≡ None = sym (position_from-zero test names) ∙ none in
    let long : 0 + length names ≡ length entries = omega (arith, names_of-length entries) in
    ap (position test) (names_of-append entries name v)
    ∙ (position_from-zero test (names ++ name ∷ [])
    ∙ (position_from-last test 0 names name ((bytes_decides name name).1 refl) none' ∙ ap Some long))

-- the bulkhead of the new instance is found by its name
pub bulkhead_of-new : (lists new : RegistryView ℕ) (name : List ℕ) (index : ℕ) (bulkheads : List BulkheadView) (bulkhead : BulkheadView) → new ≡ with_instance lists name index
    → instance_id lists name ≡ None → BulkheadsInvariant (record { lists = lists; bulkheads = bulkheads }) → bulkhead_of (record { lists = new; bulkheads = bulkheads ++ bulkhead ∷ [] }) name ≡ Some bulkhead
bulkhead_of-new lists new name index bulkheads bulkhead is none inv =
    let long = AllZip-length (IsBulkheadOf lists) lists.instances bulkheads inv.each in
    let at : instance_id (with_instance lists name index) name ≡ Some (length lists.instances) = index_of-last lists.instances name index none in
    let here : slice_get (bulkheads ++ bulkhead ∷ []) (length lists.instances) ≡ Some bulkhead = slice_get-last bulkheads bulkhead (length lists.instances) (sym long) in
    let found : bulkhead_of (record { lists = with_instance lists name index; bulkheads = bulkheads ++ bulkhead ∷ [] }) name ≡ Some bulkhead =
    ap (λ (id : Option ℕ). option_and_then (λ i. slice_get (bulkheads ++ bulkhead ∷ []) i) id) at ∙ here in
    subst (λ (l : RegistryView ℕ). bulkhead_of (record { lists = l; bulkheads = bulkheads ++ bulkhead ∷ [] }) name ≡ Some bulkhead) (sym is) found
