-- The rows of a body. Its records are the header and one record for each row; and why a body has none.
use Rattle.std.specs.Prelude.{ℕ, suc, ◌≡◌, ◌≢◌, ◌==◌, ◌++◌, ◌∷◌, [], List, Option, Some, None, if◌then◌else◌, length, map, slice_get, Result, IfOk, ⊤}
use denote.Ref.{Bor}
use Rattle.csv.specs.Records.{Row as Record, fields_of}
use Rattle.csv.specs.Reading.{records, default_config, strip_bom}
use Rattle.resil_input.specs.declared.csv_rows.BodyError.{BodyError}
use Rattle.resil_input.specs.declared.csv_rows.BodyError.TheVariants as error

-- every record of a body, each with its fields
abbrev pub records_of : List ℕ → List (List (List ℕ))
records_of body = records default_config (strip_bom body)

-- the row that a record under a header is read as: it has as many fields as the header
abbrev pub row_under : {Row : Type 0} → List (List ℕ) → (List (List ℕ) → Option Row) → List (List ℕ) → Option Row
row_under header row_of fields = if length fields == length header then row_of fields else None

-- a call that answers for each record with as many fields as the header returns its row, if it doesn't fail
abbrev pub AnswersRows : {Row E : Type 0} → (Bor Record → Result (Option Row) E → Type 0) → List (List ℕ) → (List (List ℕ) → Option Row) → Type 0
AnswersRows {Row} {E} answers header row_of =
    (fields : Bor Record) (answer : Result (Option Row) E) → answers fields answer → length (fields_of fields.now) ≡ length header → IfOk answer (λ row. row ≡ row_of (fields_of fields.now))

-- these records are read as these rows, one for each record
abbrev pub ParseAs : {Row : Type 0} → List (List ℕ) → (List (List ℕ) → Option Row) → List (List (List ℕ)) → List Row → Type 0
ParseAs header row_of records rows = map (row_under header row_of) records ≡ map Some rows

-- a body of these rows: the header, then the records of the rows
abbrev pub IsBody : {Row : Type 0} → List (List ℕ) → (List (List ℕ) → Option Row) → List ℕ → List Row → Type 0
IsBody header row_of body rows = (records : List (List (List ℕ))) × (records_of body ≡ header ∷ records) × ParseAs header row_of records rows

-- why a body has no rows: the first of these errors that is met
abbrev pub IsBodyError : {Row : Type 0} → List (List ℕ) → (List (List ℕ) → Option Row) → List ℕ → BodyError → Type 0
IsBodyError header row_of body error.Memory = ⊤
-- the first record is missing, or isn't the header
IsBodyError header row_of body error.BadHeader = slice_get (records_of body) 0 ≢ Some header
-- the records before that position are rows, and the one there isn't; positions are from 1
IsBodyError {Row} header row_of body (error.BadRow position) = (prefix : List (List (List ℕ))) × (bad : List (List ℕ)) × (rest : List (List (List ℕ))) × (rows : List Row)
    × (records_of body ≡ header ∷ (prefix ++ bad ∷ rest)) × ParseAs header row_of prefix rows × (row_under header row_of bad ≡ None) × (position ≡ suc (length prefix))

-- why a body has no first record: it is out of memory, or it has no record
abbrev pub IsUnopened : List ℕ → BodyError → Type 0
IsUnopened body error.Memory = ⊤
IsUnopened body error.BadHeader = records_of body ≡ []
IsUnopened body (error.BadRow position) = ⊥

-- A body has at most one list of rows.
abbrev pub RowsUnique : {Row : Type 0} → List (List ℕ) → (List (List ℕ) → Option Row) → Type 0
RowsUnique {Row} header row_of = (body : List ℕ) (rows others : List Row) → IsBody header row_of body rows → IsBody header row_of body others → rows ≡ others

-- A body with rows has no error, except that it may be out of memory.
abbrev pub RowsExcludeErrors : {Row : Type 0} → List (List ℕ) → (List (List ℕ) → Option Row) → Type 0
RowsExcludeErrors {Row} header row_of = (body : List ℕ) (rows : List Row) (why : BodyError) → IsBody header row_of body rows → IsBodyError header row_of body why → why ≡ error.Memory

-- A body has at most one error, except that it may be out of memory.
abbrev pub ErrorsUnique : {Row : Type 0} → List (List ℕ) → (List (List ℕ) → Option Row) → Type 0
ErrorsUnique header row_of = (body : List ℕ) (why other : BodyError) → IsBodyError header row_of body why → IsBodyError header row_of body other → why ≢ error.Memory → other ≢ error.Memory → why ≡ other
