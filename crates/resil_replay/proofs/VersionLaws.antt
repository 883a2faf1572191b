-- Bodies of several versions, whose header says which.
use Rattle.resil_replay.proofs.Words.{◌≡◌, ◌∙◌, ◌∷◌, refl, ℕ, List, Option, Some, Result, Ok, Err, MatchResult, [], get_or, length, slice_get, sym, ap, inr, arith, Version, One, Two, IsAuditBodyError, history_header, IsHistoryBodyError, parse_timed, timed_header, IsBody, IsBodyError, records_of, IsOpened, header_of, rows-unique, rows-exclude_errors, errors-unique}
use Rattle.resil_replay.specs.declared.layout.Layout.{Layout}
use Rattle.resil_replay.specs.declared.layout.Layout.TheVariants.{Untimed, Timed}
use Rattle.resil_replay.specs.Layout.{layout_header}
use Rattle.resil_input.specs.declared.csv_rows.OpenBody.{OpenBody}
use Rattle.resil_input.specs.declared.csv_rows.BodyError.{BodyError}
use Rattle.resil_input.specs.declared.csv_rows.BodyError.TheVariants as error
use Rattle.resil_replay.specs.Versions.{IsVersionsError, VersionsUnique, VersionsExcludeErrors, VersionErrorsUnique}

-- where the first record isn't the header of version 1, the error is that of version 2
pub second-error : {Row : Type 0} (header : Version → List (List ℕ)) (row_of : List (List ℕ) → Option Row) (body : List ℕ) (why : BodyError)
    → IsBodyError (header One) row_of body error.BadHeader → IsBodyError (header Two) row_of body why → IsVersionsError header row_of body why
second-error header row_of body error.Memory one two = tt
second-error header row_of body error.BadHeader one two = λ version. both version
  where
    both : (version : Version) → IsBodyError (header version) row_of body error.BadHeader
    both One = one
    both Two = two
second-error header row_of body (error.BadRow position) one two = (Two, two)

-- a body that was opened, and has the header of a version
module _ {Row : Type 0} (header : Version → List (List ℕ)) (row_of : List (List ℕ) → Option Row) (body : List ℕ) (opened : OpenBody) (is : IsOpened body opened) (version : Version) (same : header_of opened ≡ header version) where
  pub version-error : (why : BodyError) → IsBodyError (header_of opened) row_of body why → IsVersionsError header row_of body why
  version-error error.Memory h = tt
  version-error error.BadHeader h = absurd (h (rw is.first refl))
  version-error (error.BadRow position) h = (version, rw same at h)

  pub version-read : {T : Type 0} (rows_of : T → List Row) (r : Result T BodyError) → MatchResult r (λ read. IsBody (header_of opened) row_of body (rows_of read)) (IsBodyError (header_of opened) row_of body)
      → MatchResult r (λ read. (version : Version) × IsBody (header version) row_of body (rows_of read)) (IsVersionsError header row_of body)
  version-read rows_of (Ok read) h = (version, rw same at h)
  version-read rows_of (Err why) h = version-error why h

-- a body that was opened, and has the header of no version
pub other-header : (body : List ℕ) (opened : OpenBody) → IsOpened body opened → (header : List (List ℕ)) → (header_of opened ≡ header → ⊥) → slice_get (records_of body) 0 ≡ Some header → ⊥
other-header body opened is header other same = other (cc (rw is.first at same))

-- Two versions with headers of other lengths: no body is of both.
module _ {Row : Type 0} (header : Version → List (List ℕ)) (row_of : List (List ℕ) → Option Row) (apart : length (header One) ≡ length (header Two) → ⊥) where
  same : (body : List ℕ) (version another : Version) (one two : List (List (List ℕ))) → records_of body ≡ header version ∷ one → records_of body ≡ header another ∷ two → version ≡ another
  same body version another one two a b = by version another (ap (λ (records : List (List (List ℕ))). length (get_or records 0 [])) (sym a ∙ b))
    where
      by : (version another : Version) → length (header version) ≡ length (header another) → version ≡ another
      by One Two e = absurd (apart e)
      by Two One e = absurd (apart (sym e))
      by One One e = refl
      by Two Two e = refl

  pub versions-unique : VersionsUnique header row_of
  versions-unique body version another rows others a b =
      let one = same body another version _ _ b.1 a.1 in
      (sym one, rows-unique (header version) row_of body rows others a (rw one at b))

  pub versions-exclude_errors : VersionsExcludeErrors header row_of
  versions-exclude_errors body version rows error.Memory a h = refl
  versions-exclude_errors body version rows error.BadHeader a h = rows-exclude_errors (header version) row_of body rows error.BadHeader a (h version)
  versions-exclude_errors body version rows (error.BadRow position) a (another, h) =
      rows-exclude_errors (header version) row_of body rows (error.BadRow position) a (rw (same body another version _ _ h.4 a.1) at h)

  pub version-errors_unique : VersionErrorsUnique header row_of
  version-errors_unique body error.Memory other a b m n = absurd (m refl)
  version-errors_unique body why error.Memory a b m n = absurd (n refl)
  version-errors_unique body error.BadHeader error.BadHeader a b m n = refl
  version-errors_unique body error.BadHeader (error.BadRow position) a (version, b) m n = errors-unique (header version) row_of body error.BadHeader (error.BadRow position) (a version) b m n
  version-errors_unique body (error.BadRow position) error.BadHeader (version, a) b m n = errors-unique (header version) row_of body (error.BadRow position) error.BadHeader a (b version) m n
  version-errors_unique body (error.BadRow position) (error.BadRow later) (version, a) (another, b) m n =
      errors-unique (header version) row_of body (error.BadRow position) (error.BadRow later) a (rw (same body another version _ _ b.4 a.4) at b) m n

-- ---- Histories.

-- the header with times is that of no other version
timed-apart : (version : Version) → history_header version ≡ timed_header → ⊥
timed-apart One same = omega (arith, ap length same)
timed-apart Two same = omega (arith, ap length same)

module _ (body : List ℕ) (opened : OpenBody) (is : IsOpened body opened) where
  pub audit-headless : ((version : Version) → header_of opened ≡ history_header version → ⊥) → IsAuditBodyError body error.BadHeader
  audit-headless other version = other-header body opened is (history_header version) (other version)

  pub audit-timed : header_of opened ≡ timed_header → IsAuditBodyError body error.BadHeader
  audit-timed same = audit-headless (λ version other. timed-apart version (sym other ∙ same))

  pub history-headless : ((layout : Layout) → header_of opened ≡ layout_header layout → ⊥) → IsHistoryBodyError body error.BadHeader
  history-headless other = (audit-headless (λ version. other (Untimed version)), other-header body opened is timed_header (other Timed))

  pub history-timed : header_of opened ≡ timed_header → (why : BodyError) → IsBodyError timed_header parse_timed body why → IsHistoryBodyError body why
  history-timed same error.Memory h = tt
  history-timed same error.BadHeader h = absurd (h (rw (is.first, same) refl))
  history-timed same (error.BadRow position) h = inr h
