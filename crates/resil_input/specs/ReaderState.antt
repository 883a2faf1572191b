-- The state of a `csv` reader in a body: the records that it has yet to give.
use Rattle.std.specs.Prelude.{ℕ, suc, ◌≡◌, ◌≢◌, ◌∷◌, [], false, List, Some, length, unwrap_or, IfSome}
use denote.Ref.{Bor}
use Rattle.csv.specs.Machine.{ends_at_end}
use Rattle.csv.specs.Records.{fields_of}
use Rattle.csv.specs.Reading.{Ready, records_from, default_config, source_of}
use Rattle.csv.specs.declared.reader.Reader.{Reader}
use Rattle.csv.specs.declared.reader.Trim.TheVariants as trim
use Rattle.resil_input.specs.CsvRows.{records_of}
use Rattle.resil_input.specs.declared.csv_rows.OpenBody.{OpenBody}
use Rattle.resil_input.specs.declared.csv_rows.Next.{Next}
use Rattle.resil_input.specs.declared.csv_rows.Next.TheVariants.{Record, UnequalLength, End}

-- the bytes that a reader has yet to read
abbrev pub bytes_left : Reader (Bor (List ℕ)) → List ℕ
bytes_left reader = unwrap_or (source_of (λ s. Some s.now) reader) []

-- the records that it has yet to give
unfoldable pub records_left : Reader (Bor (List ℕ)) → List (List (List ℕ))
records_left reader = records_from default_config (suc (length (bytes_left reader))) reader.state (bytes_left reader)

-- a reader between two records, with `csv`'s defaults and no header row of its own
pub record IsBetweenRecords (reader : Reader (Bor (List ℕ))) : Type 0 where
  pub plain : reader.trim ≡ trim.None
  pub ready : Ready reader
  pub config : reader.config ≡ default_config
  pub strict : reader.flexible ≡ false
  pub known : source_of (λ s. Some s.now) reader ≡ Some (bytes_left reader)
  pub between : ends_at_end reader.state ≡ false

-- what a reader gave next: a record with as many fields as the ones before, one with another number, or the end
abbrev pub GivesNext : Reader (Bor (List ℕ)) → Reader (Bor (List ℕ)) → List (List ℕ) → Next → Type 0
GivesNext old new fields Record = IsBetweenRecords new × (records_left old ≡ fields ∷ records_left new) × (new.expected ≡ Some (length fields)) × IfSome old.expected (λ width. width ≡ length fields)
GivesNext old new fields UnequalLength = (bad : List (List ℕ)) × (rest : List (List (List ℕ))) × (records_left old ≡ bad ∷ rest) × (width : ℕ) × (old.expected ≡ Some width) × (length bad ≢ width)
GivesNext old new fields End = records_left old ≡ []

-- a reader after the header: each record that it gives must have as many fields
abbrev pub IsInBody : List (List ℕ) → Reader (Bor (List ℕ)) → Type 0
IsInBody header reader = IsBetweenRecords reader × (reader.expected ≡ Some (length header))

-- the fields of the first record of an open body
abbrev pub header_of : OpenBody → List (List ℕ)
header_of opened = fields_of opened.header

-- The body was opened: its first record was read, and no record after it.
pub record IsOpened (body : List ℕ) (opened : OpenBody) : Type 0 where
  pub first : records_of body ≡ header_of opened ∷ records_left opened.reader
  pub inside : IsInBody (header_of opened) opened.reader
