-- The fields of a record, by their index.
use denote.Ref.{Bor}
use Rattle.std.proofs.Common.{◌≡◌, ◌∙◌, ◌∷◌, ℕ, zero, suc, List, [], Option, Some, None, length, get_or, refl, ap}
use Rattle.std.specs.Prelude.{option_map, unwrap_or}
use Rattle.csv.specs.Records.{field_at}

-- the field at an index, or an empty one
pub field-or_empty : (fields : List (List ℕ)) (i : ℕ) (o : Option (Bor (List ℕ))) (d : Bor (List ℕ)) → d.now ≡ [] → option_map (λ f. f.now) o ≡ field_at fields i → (unwrap_or o d).now ≡ get_or fields i []
unfolding field_at
field-or_empty (field ∷ fields) (suc i) o d none e = field-or_empty fields i o d none e
field-or_empty fields i None d none e = cc (none, e)
field-or_empty fields i (Some f) d none e = cc e

-- this many fields, from an index on
abbrev pub fields_from : ℕ → ℕ → List (List ℕ) → List (List ℕ)
fields_from i zero fields = []
fields_from i (suc n) fields = get_or fields i [] ∷ fields_from (suc i) n fields

fields_from-tail : (i n : ℕ) (field : List ℕ) (fields : List (List ℕ)) → fields_from (suc i) n (field ∷ fields) ≡ fields_from i n fields
fields_from-tail i zero field fields = refl
fields_from-tail i (suc n) field fields = ap (λ (l : List (List ℕ)). get_or fields i [] ∷ l) (fields_from-tail (suc i) n field fields)

-- a record is the list of its fields by their indices
pub fields-whole : (fields : List (List ℕ)) (n : ℕ) → length fields ≡ n → fields_from 0 n fields ≡ fields
fields-whole [] n len = rw (← len) refl
fields-whole (field ∷ fields) n len = rw (← len) (ap (λ (l : List (List ℕ)). field ∷ l) (fields_from-tail 0 (length fields) field fields ∙ fields-whole fields (length fields) refl))
