-- What one read of `csv` does to the records that a reader has yet to give.
use denote.Ref.{Bor}
use Rattle.std.proofs.Common.{◌≡◌, ◌≢◌, ◌∙◌, ℕ, suc, List, [], Option, Some, None, IfSome, true, false, length, refl, sym, add-one}
use Rattle.csv.specs.Machine.{Read, next_record}
use Rattle.csv.specs.Reading.{NextIs, Ready, ReadRecord, ReadsNext, ReadsOn, TookRecord, default_config, pending_of, records_from, source_of, strip_bom}
use Rattle.csv.specs.declared.parser.Config.{Config}
use Rattle.csv.specs.declared.parser.State.{State}
use Rattle.csv.specs.declared.parser.State.TheVariants as st
use Rattle.csv.specs.declared.reader.Reader.{Reader}
use Rattle.csv.specs.declared.reader.Trim.TheVariants as trim
use Rattle.csv.proofs.ReadFacts.{rows-end}
use Rattle.resil_input.proofs.RecordLaws.{records_from-end, records_from-next}
use Rattle.resil_input.specs.CsvRows.{records_of}
use Rattle.resil_input.specs.ReaderState.{GivesNext, IsBetweenRecords, bytes_left, records_left}
use Rattle.resil_input.specs.declared.csv_rows.Next.TheVariants.{Record, UnequalLength, End}

-- what a reader of a body has yet to read is known
abbrev told : Bor (List ℕ) → Option (List ℕ)
told s = Some s.now

abbrev BodyReader : Type 0
BodyReader = Reader (Bor (List ℕ))

same-width : (o : Option ℕ) (new : Option ℕ) (n : ℕ) → IfSome o (λ e. new ≡ Some e) → new ≡ Some n → IfSome o (λ e. e ≡ n)
same-width None new n h e = tt
same-width (Some width) new n h e = cc (h, e)

bytes_left-known : (b : BodyReader) (z : List ℕ) → source_of told b ≡ Some z → bytes_left b ≡ z
bytes_left-known b z e = rw e refl

-- past the start of a body, nothing is taken off
source_of-pending : (b : BodyReader) (z : List ℕ) → b.bom_checked ≡ true → pending_of (told b.rdr) b ≡ Some z → source_of told b ≡ Some z
source_of-pending b z past e = rw past e

next-is : (o : Option Read) (f : List (List ℕ)) (s : State) (z : List ℕ) → NextIs o true f s z → o ≡ Some (f, s, z)
next-is None f s z h = cc h
next-is (Some p) f s z h = rw (h.1, h.2, h.3) refl

-- a read that found a record, where the bytes before it are known
took : (cfg : Config) (s s2 : State) (y : List ℕ) (after : Option (List ℕ)) (f : List (List ℕ)) → ReadsNext cfg s (Some y) after true f s2
    → (z : List ℕ) × (after ≡ Some z) × (next_record cfg s [] [] y ≡ Some (f, s2, z))
took cfg s s2 y None f h = absurd h
took cfg s s2 y (Some z) f h = (z, refl, next-is _ f s2 z h)

took-record : (a b : BodyReader) (fields : List (List ℕ)) → IsBetweenRecords a → TookRecord told a b fields
    → (z : List ℕ) × (pending_of (told b.rdr) b ≡ Some z) × (next_record default_config a.state [] [] (bytes_left a) ≡ Some (fields, b.state, z))
took-record a b fields h t = took default_config a.state b.state (bytes_left a) (pending_of (told b.rdr) b) fields (rw (h.config, h.known) at t)

pub gives-record : (a b : BodyReader) (fields : List (List ℕ)) → IsBetweenRecords a → ReadRecord told a b true fields → ReadsOn a b → GivesNext a b fields Record
unfolding records_left
gives-record a b fields h r on =
    let (z, pending, next) = took-record a b fields h r.0 in
    let known = source_of-pending b z r.1 pending in
    let left : bytes_left b ≡ z = bytes_left-known b z known in
    let (records, between) = records_from-next a.state b.state (bytes_left a) z fields h.between next in
    let width = r.5 refl h.strict in
    let stands : IsBetweenRecords b = record { plain = r.3 ∙ h.plain; ready = (on.4 h.ready).0; config = r.2 ∙ h.config; strict = on.2 ∙ h.strict; known = rw left known; between = between } in
    (stands, rw left records, width.1, same-width a.expected b.expected (length fields) width.0 width.1)

pub gives-end : (a b : BodyReader) (fields : List (List ℕ)) → IsBetweenRecords a → ReadRecord told a b false fields → GivesNext a b fields End
unfolding records_left
gives-end a b fields h r = records_from-end _ _ _ (rows-end told a b fields default_config (bytes_left a) h.config h.known r)

pub gives-unequal_length : (a b : BodyReader) (fields bad : List (List ℕ)) (width len : ℕ) → IsBetweenRecords a
    → a.expected ≡ Some width → width ≢ len → TookRecord told a b bad → length bad ≡ len → GivesNext a b fields UnequalLength
unfolding records_left
gives-unequal_length a b fields bad width len h expected other t same =
    let (z, pending, next) = took-record a b bad h t in
    (bad, records_from default_config (suc (length z)) b.state z, (records_from-next a.state b.state (bytes_left a) z bad h.between next).0, width, expected, λ e. other (sym e ∙ same))

-- a reader of a whole body has all its records yet to give
pub stands-start : (reader : BodyReader) (body : List ℕ) → reader.trim ≡ trim.None → Ready reader → reader.config ≡ default_config → reader.flexible ≡ false
    → reader.state ≡ st.StartRecord → source_of told reader ≡ Some (strip_bom body) → IsBetweenRecords reader × (records_left reader ≡ records_of body)
unfolding records_left
stands-start reader body plain ready config strict start known =
    let left : bytes_left reader ≡ strip_bom body = bytes_left-known reader (strip_bom body) known in
    (record { plain = plain; ready = ready; config = config; strict = strict; known = rw left known; between = rw start refl }, rw (left, start, add-one) refl)
