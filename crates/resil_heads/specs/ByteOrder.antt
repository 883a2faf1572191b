-- The members of a table, which has them in byte order of their keys, whatever their order in the text.
use Rattle.std.specs.Prelude.{ℕ, ◌≡◌, true, List, [], ◌∷◌}
use Rattle.toml.specs.Data.{Data, Members, no_members, member, is_before}

-- the keys of a table with their values, in its order
abbrev pub in_byte_order : Members → List (List ℕ × Data)
in_byte_order no_members = []
in_byte_order (member key value others) = (key, value) ∷ in_byte_order others

-- Each key is before the next one: it has the lower byte at the first place where they differ, or it ends there and the other goes on.
abbrev pub AreInByteOrder : Members → Type 0
AreInByteOrder no_members = Unit {0}
AreInByteOrder (member key value others) = (is_before key others ≡ true) × AreInByteOrder others
