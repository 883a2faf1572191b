-- The table that the bytes of a head write, and the checks of its keys.
use Rattle.std.specs.Prelude.{ℕ, ◌&&◌, Bool, true, is_some, List, [], ◌∷◌, map, Result, Ok, Err, ok_or, if◌then◌else◌}
use Rattle.std.specs.List.{list_all, list_any}
use Rattle.std.specs.Str.{is_utf8}
use Rattle.toml.specs.Data.{Members, no_members, member, get_member}
use Rattle.toml.specs.Parse.{parse_document}
use Rattle.resil_heads.specs.Checks.{and_then}
use Rattle.resil_heads.specs.declared.forms.Key.{Key}
use Rattle.resil_heads.specs.declared.forms.Key.TheVariants.{Required, Optional}
use Rattle.resil_heads.specs.declared.error.HeadError.{HeadError}
use Rattle.resil_heads.specs.declared.error.HeadError.TheVariants as error
use Rattle.resil_input.specs.TextEquality.{is_same}

-- the table that the bytes write; bytes that aren't UTF-8, or aren't TOML, are the error `BadToml`
abbrev pub document_of : List ℕ → Result Members HeadError
document_of bytes = if is_utf8 bytes then ok_or (parse_document bytes) error.BadToml else Err error.BadToml

-- the keys that a table may have, and those of them that it needs
pub record Keys : Type 0 where
  pub known : List (List ℕ)
  pub required : List (List ℕ)

-- the name of a key
abbrev pub name_of : Key → List ℕ
name_of (Required name form) = name.now
name_of (Optional name form) = name.now

-- those of the keys that are required
abbrev pub required_of : List Key → List (List ℕ)
required_of [] = []
required_of (Required name form ∷ keys) = name.now ∷ required_of keys
required_of (Optional name form ∷ keys) = required_of keys

-- the keys that are listed with what their values may be
abbrev pub keys_of : List Key → Keys
keys_of keys = record { known = map name_of keys; required = required_of keys }

-- the key is one of those listed
abbrev pub is_known : List (List ℕ) → List ℕ → Bool
is_known keys key = list_any (λ known. is_same known key) keys

-- every key of the table is one of those listed
abbrev pub has_only : List (List ℕ) → Members → Bool
has_only keys no_members = true
has_only keys (member key value others) = is_known keys key && has_only keys others

-- the table has each of the keys
abbrev pub has_all : List (List ℕ) → Members → Bool
has_all keys head = list_all (λ key. is_some (get_member key head)) keys

-- the table has a key, if it needs it
abbrev pub has_needed : Members → Key → Bool
has_needed head (Required name form) = is_some (get_member name.now head)
has_needed head (Optional name form) = true

-- no key is another than these
abbrev pub check_known : Keys → Members → Result (Unit {0}) HeadError
check_known keys table = if has_only keys.known table then Ok tt else Err error.UnknownKey

-- each required key is there
abbrev pub check_required : Keys → Members → Result (Unit {0}) HeadError
check_required keys table = if has_all keys.required table then Ok tt else Err error.MissingKey

-- both checks, in this order
abbrev pub check_keys : Keys → Members → Result (Unit {0}) HeadError
check_keys keys table = and_then (check_known keys table) (λ _. check_required keys table)
