-- How the entries of a map from texts show as names with values.
use Rattle.std.proofs.Common.{◌≡◌, ℕ, ◌+◌, Bool, false, not, cond, nat_lt, List, [], ◌∷◌, ◌++◌, map, length, position, None, Some, String, refl, sym, ap, ◌∙◌}
use Rattle.std.proofs.lemmas.List.{length-map, map-append}
use Rattle.std.specs.List.{position_or_len, IsDistinct, AllByRecursion}
use Rattle.std.specs.Str.{bytes_eq}
use Rattle.std.specs.String.{string_bytes, string_eq}
use Rattle.std.specs.Map.{keys_of}
use Rattle.indexmap.specs.IndexMap.{IndexMap, insert_entry}
use Rattle.indexmap.proofs.CallerLemmas.{insert_entry-new}
use Rattle.indexmap.proofs.MapLemmas.{Missing-position}
use Rattle.resil_registry.specs.Entries.{names_of, index_of}

module _ {X Y : Type 0} (f : X → Y) (test : Y → Bool) where
  pub position_or_len-map : (xs : List X) → position_or_len test (map f xs) ≡ position_or_len (λ x. test (f x)) xs
  position_or_len-map [] = refl
  position_or_len-map (x ∷ xs) = ap (λ n. cond (not (test (f x))) (1 + n) 0) (position_or_len-map xs)

  -- a search among the images is a search by the test of the image
  pub position-map : (xs : List X) → position test (map f xs) ≡ position (λ x. test (f x)) xs
  position-map xs =
      ap (λ n. cond (nat_lt n (length (map f xs))) (Some n) None) (position_or_len-map xs)
      ∙ ap (λ n. cond (nat_lt (position_or_len (λ x. test (f x)) xs) n) (Some (position_or_len (λ x. test (f x)) xs)) None) (length-map xs f)

module _ {Z : Type 0} where
  -- a text that is equal to none of these has other bytes than each
  apart : (text : String Z) (texts : List (String Z)) → AllByRecursion (λ other. string_eq text other ≡ false) texts
      → AllByRecursion (λ name. bytes_eq (string_bytes text) name ≡ false) (map string_bytes texts)
  apart text [] all = all
  apart text (other ∷ texts) all = (all.0, apart text texts all.1)

  -- texts that are distinct have distinct bytes
  pub IsDistinct-string_bytes : (texts : List (String Z)) → IsDistinct string_eq texts → IsDistinct bytes_eq (map string_bytes texts)
  unfolding IsDistinct
  IsDistinct-string_bytes [] distinct = distinct
  IsDistinct-string_bytes (text ∷ texts) distinct = (apart text texts distinct.0, IsDistinct-string_bytes texts distinct.1)

module _ {Z V : Type 0} where
  -- the entries of a map from texts as names with values
  abbrev pub shown : List (String Z × V) → List (List ℕ × V)
  shown entries = map (λ entry. (string_bytes entry.0, entry.1)) entries

  -- the names are the bytes of the keys
  pub names_of-shown : (entries : List (String Z × V)) → names_of (shown entries) ≡ map string_bytes (keys_of entries)
  names_of-shown [] = refl
  names_of-shown (entry ∷ entries) = ap (λ names. string_bytes entry.0 ∷ names) (names_of-shown entries)

  -- a name has the index of the text that it is equal to
  pub index_of-shown : (name : List ℕ) (entries : List (String Z × V)) → index_of name (shown entries) ≡ position (λ key. bytes_eq name (string_bytes key)) (keys_of entries)
  index_of-shown name entries =
      ap (position (bytes_eq name)) (names_of-shown entries)
      ∙ position-map string_bytes (bytes_eq name) (keys_of entries)

  -- a name that is new goes last
  pub shown-insert_entry : {S : Type 0} (m : IndexMap (String Z) V S) (key : String Z) (value : V)
      → index_of (string_bytes key) (shown m.entries) ≡ None
      → shown (insert_entry string_eq m.entries key value) ≡ shown m.entries ++ (string_bytes key, value) ∷ []
  shown-insert_entry m key value new =
      let absent = Missing-position (string_eq key) m.entries (sym (index_of-shown (string_bytes key) m.entries) ∙ new) in
      ap shown (insert_entry-new string_eq m key value absent.value)
      ∙ map-append (λ entry. (string_bytes entry.0, entry.1)) m.entries ((key, value) ∷ [])
