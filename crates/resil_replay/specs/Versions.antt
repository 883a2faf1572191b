-- Bodies that are written in one of two versions. Their header says which.
use Rattle.std.specs.Prelude.{ℕ, ◌≡◌, ◌≢◌, List, Option, ⊤}
use Rattle.resil_replay.specs.declared.history.Version.{Version}
use Rattle.resil_input.specs.CsvRows.{IsBody, IsBodyError}
use Rattle.resil_input.specs.declared.csv_rows.BodyError.{BodyError}
use Rattle.resil_input.specs.declared.csv_rows.BodyError.TheVariants as error

-- given the header of each version, and the row that a record is read as
module _ {Row : Type 0} (header : Version → List (List ℕ)) (row_of : List (List ℕ) → Option Row) where
  -- Why a body has no rows: out of memory; its first record is the header of no version; or a record under the header of
  -- one of them isn't a row.
  abbrev pub IsVersionsError : List ℕ → BodyError → Type 0
  IsVersionsError body error.Memory = ⊤
  IsVersionsError body error.BadHeader = (version : Version) → IsBodyError (header version) row_of body error.BadHeader
  IsVersionsError body (error.BadRow position) = (version : Version) × IsBodyError (header version) row_of body (error.BadRow position)

  -- A body has at most one version and one list of rows.
  abbrev pub VersionsUnique : Type 0
  VersionsUnique = (body : List ℕ) (version another : Version) (rows others : List Row)
      → IsBody (header version) row_of body rows → IsBody (header another) row_of body others → (version ≡ another) × (rows ≡ others)

  -- A body with rows of a version has no error, except for being out of memory.
  abbrev pub VersionsExcludeErrors : Type 0
  VersionsExcludeErrors = (body : List ℕ) (version : Version) (rows : List Row) (why : BodyError)
      → IsBody (header version) row_of body rows → IsVersionsError body why → why ≡ error.Memory

  -- A body has at most one error, except for being out of memory.
  abbrev pub VersionErrorsUnique : Type 0
  VersionErrorsUnique = (body : List ℕ) (why other : BodyError)
      → IsVersionsError body why → IsVersionsError body other → why ≢ error.Memory → other ≢ error.Memory → why ≡ other
