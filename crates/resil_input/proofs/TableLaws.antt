-- Fields that need no quotes, and the text of their record.
use Rattle.std.proofs.Common.{Some, ◌≡◌, ◌∙◌, ◌<◌, ◌++◌, ◌∷◌, [], ℕ, zero, suc, take, List, false, length, refl, ap, arith, append-nil}
use Rattle.std.specs.List.{list_all, join_with_byte}
use Rattle.std.proofs.lemmas.Bool.{and_parts, ne_eqb, not-true}
use Rattle.std.proofs.lemmas.Grind.{flat_map-append}
use Rattle.csv.specs.Writing.{default_writer, field_text, fields_text, is_blank, needs_byte, needs_quotes, row_text}
use Rattle.csv.specs.Machine.{next_record}
use Rattle.csv.specs.Reading.{default_config}
use Rattle.csv.specs.declared.parser.State.TheVariants as st
use Rattle.csv.proofs.RoundTrip.{read-write}
use Rattle.resil_input.specs.CsvTable.{ArePlain, IsPlain, is_plain, record_text, table_text}

-- a plain field is written as it is
field_text-plain : (field : List ℕ) → IsPlain field → field_text default_writer field ≡ field
field_text-plain field plain = rw (not-true (needs_quotes default_writer field) plain) refl

-- plain fields with commas between them
fields_text-plain : (field : List ℕ) (rest : List (List ℕ)) → ArePlain rest → field ++ fields_text default_writer rest ≡ join_with_byte 44 (field ∷ rest)
unfolding fields_text
fields_text-plain field [] plain = append-nil field
fields_text-plain field (next ∷ rest) plain =
    let (here, later) = and_parts (is_plain next) (list_all is_plain rest) plain in
    ap (λ (t : List ℕ). field ++ 44 ∷ t) (rw (field_text-plain next here) (fields_text-plain next rest later))

-- the record of plain fields
pub row_text-plain : (fields : List (List ℕ)) → 1 < length fields → ArePlain fields → row_text default_writer fields ≡ record_text fields
unfolding is_blank
row_text-plain [] several plain = absurd (omega arith)
row_text-plain (field ∷ []) several plain = absurd (omega arith)
row_text-plain (field ∷ next ∷ rest) several plain =
    let (here, later) = and_parts (is_plain field) (list_all is_plain (next ∷ rest)) plain in
    ap (λ (t : List ℕ). t ++ 10 ∷ []) (rw (field_text-plain field here) (fields_text-plain field (next ∷ rest) later))

-- a digit needs no quotes
pub needs_byte-digit : (b : ℕ) → 47 < b → needs_byte default_writer b ≡ false
needs_byte-digit b high =
    rw (ne_eqb b 44 (λ e. omega arith), ne_eqb b 34 (λ e. omega arith), ne_eqb b 13 (λ e. omega arith), ne_eqb b 10 (λ e. omega arith)) refl

-- some of the first of plain fields
pub ArePlain-take : (n : ℕ) (fields : List (List ℕ)) → ArePlain fields → ArePlain (take n fields)
ArePlain-take zero fields plain = refl
ArePlain-take (suc n) [] plain = refl
ArePlain-take (suc n) (field ∷ rest) plain =
    let (here, later) = and_parts (is_plain field) (list_all is_plain rest) plain in
    rw (here, ArePlain-take n rest later) refl

-- `csv` reads a record from its text, and leaves what follows it
pub record-read : (fields : List (List ℕ)) (s : List ℕ) → 1 < length fields → ArePlain fields → next_record default_config st.StartRecord [] [] (record_text fields ++ s) ≡ Some (fields, st.StartRecord, s)
record-read [] s several plain = absurd (omega arith)
record-read (x ∷ xs) s several plain = rw (row_text-plain (x ∷ xs) several plain) at (read-write (x ∷ xs) s)

-- the text of a table with one more record
pub table_text-more : (records : List (List (List ℕ))) (fields : List (List ℕ)) → table_text (records ++ fields ∷ []) ≡ table_text records ++ record_text fields
table_text-more records fields = flat_map-append record_text records (fields ∷ []) ∙ ap (λ l. table_text records ++ l) (append-nil (record_text fields))
