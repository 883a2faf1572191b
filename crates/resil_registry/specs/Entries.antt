-- Names with values, in the order in which they were added.
use Rattle.std.specs.Prelude.{ℕ, List, map, position, Option}
use Rattle.std.specs.Str.{bytes_eq}

-- the names, in order; a name is the list of its bytes
abbrev pub names_of : {V : Type 0} → List (List ℕ × V) → List (List ℕ)
names_of entries = map (λ entry. entry.0) entries

-- the index of the first entry with that name, from 0
abbrev pub index_of : {V : Type 0} → List ℕ → List (List ℕ × V) → Option ℕ
index_of name entries = position (bytes_eq name) (names_of entries)
