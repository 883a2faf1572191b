-- The text of a table: records of fields. None of the fields needs quotes.
use Rattle.std.specs.Prelude.{◌≡◌, ◌<◌, ℕ, ◌++◌, ◌∷◌, [], List, Bool, true, false, codes, not, unwrap_or, Some}
use Rattle.std.specs.List.{flat_map, join_with_byte, list_all}
use Rattle.csv.specs.Writing.{comma, default_writer, fields_written, first_length, has_written, needs_quotes, text_written, writer_setup}
use Rattle.csv.specs.Machine.{line_feed}
use Rattle.resil_input.specs.declared.csv_table.CsvTable.{CsvTable}

-- a record: its fields joined by commas, and a line feed
abbrev pub record_text : List (List ℕ) → List ℕ
record_text fields = join_with_byte comma fields ++ line_feed ∷ []

-- a table: its records in order
abbrev pub table_text : List (List (List ℕ)) → List ℕ
table_text records = flat_map record_text records

-- the header of a table of results: the id of a job, and what is said of its run
abbrev pub results_header : List (List ℕ)
results_header = codes "caller" ∷ codes "number" ∷ codes "outcome" ∷ codes "calls" ∷ codes "waits" ∷ codes "asked" ∷ []

-- whether a field has no comma, quote or line end in it
abbrev pub is_plain : List ℕ → Bool
is_plain field = not (needs_quotes default_writer field)

-- no comma, quote or line end is in a field
abbrev pub IsPlain : List ℕ → Type 0
IsPlain field = is_plain field ≡ true

-- no field of a record needs quotes
abbrev pub ArePlain : List (List ℕ) → Type 0
ArePlain fields = list_all is_plain fields ≡ true

-- the text that was written so far
abbrev pub text_so_far : CsvTable → List ℕ
text_so_far table = unwrap_or (text_written (λ text. Some text.items) table.writer) []

-- the table is at the start of a record, each of its records has this number of fields, and `csv` writes it with its defaults
pub record HasColumns (table : CsvTable) (columns : ℕ) : Type 0 where
  pub several : 1 < columns
  pub setup : writer_setup table.writer ≡ default_writer
  pub header : first_length table.writer ≡ Some columns
  pub first_field : fields_written table.writer ≡ 0
  pub nothing_shown : has_written table.writer ≡ false
