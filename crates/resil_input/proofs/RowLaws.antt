-- The rows read so far, one more row, and the first record that isn't a row.
use Rattle.std.proofs.Common.{◌≡◌, ◌≢◌, ◌∷◌, ◌++◌, ◌∙◌, ◌+◌, ℕ, suc, List, [], Option, Some, None, Result, Ok, Err, length, map, refl, sym, ap, append_assoc, arith, MatchResult}
use Rattle.std.specs.Result.{IsErrAnd}
use Rattle.std.proofs.lemmas.List.{length-append, length-map, map_push}
use Rattle.std.specs.List.{prefix_len}
use Rattle.std.specs.Option.{is_some}
use Rattle.resil_input.specs.CsvRows.{IsBody, IsBodyError, IsUnopened, ParseAs, records_of, row_under}
use Rattle.resil_input.specs.declared.csv_rows.BodyError.{BodyError}
use Rattle.resil_input.specs.declared.csv_rows.BodyError.TheVariants as error

-- one more record, with its row
pub ParseAs-more : {Row : Type 0} (header : List (List ℕ)) (row_of : List (List ℕ) → Option Row) (records : List (List (List ℕ))) (rows : List Row) (fields : List (List ℕ)) (row : Row)
    → ParseAs header row_of records rows → row_under header row_of fields ≡ Some row → ParseAs header row_of (records ++ fields ∷ []) (rows ++ row ∷ [])
ParseAs-more header row_of records rows fields row spell e =
    map_push (row_under header row_of) records fields ∙ rw (spell, e) (sym (map_push Some rows row))

pub ParseAs-length : {Row : Type 0} (header : List (List ℕ)) (row_of : List (List ℕ) → Option Row) (records : List (List (List ℕ))) (rows : List Row)
    → ParseAs header row_of records rows → length records ≡ length rows
ParseAs-length header row_of records rows spell = sym (length-map records (row_under header row_of)) ∙ ap length spell ∙ length-map rows Some

-- the first of the records that are left is moved to those that were read
pub append-next : (all : List (List (List ℕ))) (fields : List (List ℕ)) (records left more : List (List (List ℕ)))
    → all ≡ records ++ left → left ≡ fields ∷ more → all ≡ (records ++ fields ∷ []) ++ more
append-next all fields records left more e next = e ∙ rw next (sym (append_assoc records (fields ∷ []) more))

-- the first record that isn't a row
pub bad-row : {Row : Type 0} (header : List (List ℕ)) (row_of : List (List ℕ) → Option Row) (body : List ℕ) (records left more : List (List (List ℕ))) (bad : List (List ℕ)) (rows : List Row) (position : ℕ)
    → records_of body ≡ header ∷ (records ++ left) → left ≡ bad ∷ more → ParseAs header row_of records rows → row_under header row_of bad ≡ None → position ≡ length rows + 1
    → IsBodyError header row_of body (error.BadRow position)
bad-row header row_of body records left more bad rows position all next spell none here =
    (records, bad, more, rows, rw next at all, spell, none, omega (arith, here, ParseAs-length header row_of records rows spell))

-- a body without a first record has no rows
pub unopened : {Row : Type 0} (header : List (List ℕ)) (row_of : List (List ℕ) → Option Row) (body : List ℕ) (why : BodyError) → IsUnopened body why → IsBodyError header row_of body why
unopened header row_of body error.Memory is = tt
unopened header row_of body error.BadHeader none = λ same. cc (rw none at same)
unopened header row_of body (error.BadRow position) is = absurd is

-- an error that is passed on as it is
pub handed-on : {T E : Type 0} (r : Result T E) (P : T → Type 0) (Q : E → Type 0) (why : E) → IsErrAnd r (λ e. e ≡ why) → Q why → MatchResult r P Q
handed-on (Ok x) P Q why h q = absurd h
handed-on (Err e) P Q why h q = rw h q

map-Some : {A : Type 0} (xs ys : List A) → map Some xs ≡ map Some ys → xs ≡ ys
map-Some [] [] e = refl
map-Some (x ∷ xs) (y ∷ ys) e = let rest = map-Some xs ys (cc e) in cc (e, rest)
map-Some xs ys e = cc e

-- the rows of a body are determined by it
pub rows-unique : {Row : Type 0} (header : List (List ℕ)) (row_of : List (List ℕ) → Option Row) (body : List ℕ) (rows others : List Row)
    → IsBody header row_of body rows → IsBody header row_of body others → rows ≡ others
rows-unique header row_of body rows others a b =
    let same : header ∷ a.0 ≡ header ∷ b.0 = sym a.1 ∙ b.1 in
    let records : a.0 ≡ b.0 = cc same in
    map-Some rows others (sym a.2 ∙ rw records b.2)

module _ {A Row : Type 0} (f : A → Option Row) where
  -- how many records are rows before the first that is none
  abbrev rows_before : List A → ℕ
  rows_before records = prefix_len (λ record_. is_some (f record_)) records

  -- all of them, if all are rows
  rows_before-all : (records : List A) (rows : List Row) → map f records ≡ map Some rows → rows_before records ≡ length records
  rows_before-all [] rows e = refl
  rows_before-all (x ∷ records) [] e = cc e
  rows_before-all (x ∷ records) (row ∷ rows) e = let row_of : f x ≡ Some row = cc e in rw row_of (ap (λ n. 1 + n) (rows_before-all records rows (cc e)) ∙ omega arith)

  -- those in front of a record that is none
  rows_before-none : (front : List A) (bad : A) (rest : List A) (rows : List Row) → map f front ≡ map Some rows → f bad ≡ None → rows_before (front ++ bad ∷ rest) ≡ length front
  rows_before-none [] bad rest rows e none = rw none refl
  rows_before-none (x ∷ front) bad rest [] e none = cc e
  rows_before-none (x ∷ front) bad rest (row ∷ rows) e none = let row_of : f x ≡ Some row = cc e in rw row_of (ap (λ n. 1 + n) (rows_before-none front bad rest rows (cc e) none) ∙ omega arith)

-- a body with rows has no error but being out of memory
pub rows-exclude_errors : {Row : Type 0} (header : List (List ℕ)) (row_of : List (List ℕ) → Option Row) (body : List ℕ) (rows : List Row) (why : BodyError)
    → IsBody header row_of body rows → IsBodyError header row_of body why → why ≡ error.Memory
rows-exclude_errors header row_of body rows error.Memory a h = refl
rows-exclude_errors header row_of body rows error.BadHeader a h = absurd (h (rw a.1 refl))
rows-exclude_errors header row_of body rows (error.BadRow position) a h =
    let same : header ∷ a.0 ≡ header ∷ (h.0 ++ h.1 ∷ h.2) = sym a.1 ∙ h.4 in
    let records : a.0 ≡ h.0 ++ h.1 ∷ h.2 = cc same in
    let all = rows_before-all (row_under header row_of) (h.0 ++ h.1 ∷ h.2) rows (rw records at a.2) in
    let some = rows_before-none (row_under header row_of) h.0 h.1 h.2 h.3 h.5 h.6 in
    absurd (omega (arith, length-append h.0 (h.1 ∷ h.2)))

-- a body has at most one error, besides being out of memory
pub errors-unique : {Row : Type 0} (header : List (List ℕ)) (row_of : List (List ℕ) → Option Row) (body : List ℕ) (why other : BodyError)
    → IsBodyError header row_of body why → IsBodyError header row_of body other → why ≢ error.Memory → other ≢ error.Memory → why ≡ other
errors-unique header row_of body error.BadHeader error.BadHeader a b m n = refl
errors-unique header row_of body error.BadHeader (error.BadRow position) a b m n = absurd (a (rw b.4 refl))
errors-unique header row_of body (error.BadRow position) error.BadHeader a b m n = absurd (b (rw a.4 refl))
errors-unique header row_of body (error.BadRow position) (error.BadRow later) a b m n =
    let same : header ∷ (a.0 ++ a.1 ∷ a.2) ≡ header ∷ (b.0 ++ b.1 ∷ b.2) = sym a.4 ∙ b.4 in
    let records : a.0 ++ a.1 ∷ a.2 ≡ b.0 ++ b.1 ∷ b.2 = cc same in
    let one = rows_before-none (row_under header row_of) a.0 a.1 a.2 a.3 a.5 a.6 in
    let other = rows_before-none (row_under header row_of) b.0 b.1 b.2 b.3 b.5 b.6 in
    ap error.BadRow (a.7 ∙ ap suc (sym one ∙ ap (rows_before (row_under header row_of)) records ∙ other) ∙ sym b.7)
errors-unique header row_of body error.Memory other a b m n = absurd (m refl)
errors-unique header row_of body why error.Memory a b m n = absurd (n refl)
