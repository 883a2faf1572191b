-- Laws of the definitions of heads.
use Rattle.std.proofs.Common.{◌≡◌, ℕ, ◌||◌, ◌&&◌, Bool, is_some, List, [], ◌∷◌, map, string_bytes, Err, refl, ap}
use Rattle.std.proofs.lemmas.Bool.{false_from_ne_true}
use Rattle.std.proofs.lemmas.Str.{IsUtf8-from_is_utf8, is_utf8-from_IsUtf8}
use Rattle.std.specs.List.{list_any, list_all}
use Rattle.std.specs.Map.{keys_of}
use Rattle.std.specs.Option.{ok_or}
use Rattle.std.specs.Str.{IsUtf8, is_utf8}
use Rattle.toml.specs.Data.{Members, get_member}
use Rattle.toml.specs.Parse.{parse_document}
use Rattle.toml.specs.View.{members_view}
use Rattle.toml.proofs.Views.{Entry}
use Rattle.resil_heads.specs.Document.{document_of, has_all, has_needed, has_only, is_known, required_of}
use Rattle.resil_heads.specs.declared.forms.Key.{Key}
use Rattle.resil_heads.specs.declared.forms.Key.TheVariants.{Required, Optional}
use Rattle.resil_heads.specs.declared.error.HeadError.TheVariants as error

-- a test of what the elements are mapped to
pub list_any-map : {X Y : Type 0} (p : X → Bool) (h : Y → X) (ys : List Y) → list_any p (map h ys) ≡ list_any (λ y. p (h y)) ys
list_any-map p h [] = refl
list_any-map p h (y ∷ ys) = ap (λ b. p (h y) || b) (list_any-map p h ys)

-- the keys of a map are tested as those of its table
pub has_only-keys : (keys : List (List ℕ)) (entries : List Entry) → list_all (λ k. is_known keys (string_bytes k)) (keys_of entries) ≡ has_only keys (members_view entries)
has_only-keys keys [] = refl
has_only-keys keys (entry ∷ entries) = ap (λ b. is_known keys (string_bytes entry.0) && b) (has_only-keys keys entries)

-- the required keys are there if each key is there that is needed
pub has_all-needed : (table : Members) (keys : List Key) → has_all (required_of keys) table ≡ list_all (has_needed table) keys
has_all-needed table [] = refl
has_all-needed table (Required name form ∷ keys) = ap (λ b. is_some (get_member name.now table) && b) (has_all-needed table keys)
has_all-needed table (Optional name form ∷ keys) = has_all-needed table keys

-- bytes that aren't UTF-8 are no document, and others are that of their text
pub document_of_bytes : (bytes : List ℕ) → ¬ IsUtf8 bytes → document_of bytes ≡ Err error.BadToml
document_of_bytes bytes h = rw (false_from_ne_true (is_utf8 bytes) (λ is. h (IsUtf8-from_is_utf8 bytes is))) refl

pub document_of_text : (bytes : List ℕ) → IsUtf8 bytes → document_of bytes ≡ ok_or (parse_document bytes) error.BadToml
document_of_text bytes is = rw (is_utf8-from_IsUtf8 bytes is) refl
