-- What is known of a name that is in a list.
use Rattle.std.proofs.Common.{◌≡◌, ℕ, List, [], Option, Some, None, IfSome, All, refl, sym, subst}
use Rattle.std.proofs.lemmas.List.Quantifiers.{position-Some}
use Rattle.std.specs.Cmp.Lexicographic.{bytes_decides}
use Rattle.std.specs.Str.{bytes_eq}
use Rattle.resil_name.specs.Name.{IsName}
use Rattle.resil_registry.specs.Entries.{names_of, index_of}
use Rattle.resil_registry.specs.Registry.{RegistryView, RegistryInvariant, instance_id}

-- what holds of every name in the list holds of one that is found there
pub All-index_of : {V : Type 0} (P : List ℕ → Type 0) (name : List ℕ) (entries : List (List ℕ × V)) (i : ℕ)
    → All P (names_of entries) → index_of name entries ≡ Some i → P name
All-index_of P name entries i all at =
    let found = position-Some (bytes_eq name) (names_of entries) i [] at in
    subst P (sym ((bytes_decides name _).0 found.1)) (all i [] found.0)

-- a text of which it doesn't hold is found nowhere
pub index_of-other : {V : Type 0} (P : List ℕ → Type 0) (name : List ℕ) (entries : List (List ℕ × V))
    → All P (names_of entries) → ¬ P name → index_of name entries ≡ None
index_of-other P name entries all other = by (index_of name entries) refl
  where
    by : (index : Option ℕ) → index_of name entries ≡ index → index_of name entries ≡ None
    by None at = at
    by (Some i) at = absurd (other (All-index_of P name entries i all at))

-- an instance that is found has a good name
pub IsName-found : {C : Type 0} (lists : RegistryView C) (name : List ℕ) (id : Option ℕ) → RegistryInvariant lists → id ≡ instance_id lists name → IfSome id (λ _. IsName name)
IsName-found lists name None kept found = tt
IsName-found lists name (Some i) kept found = All-index_of IsName name lists.instances i kept.named (sym found)
