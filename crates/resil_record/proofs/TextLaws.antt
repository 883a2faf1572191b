-- The text of a history is read as that history.
use Rattle.std.proofs.Common.{ℕ, ◌≡◌, ◌∙◌, ◌<◌, ◌^◌, ◌++◌, ◌∷◌, zero, suc, Bool, true, false, List, [], Some, get_or, map, length, refl, ap, add-one, arith}
use Rattle.std.specs.List.{All, flat_map}
use Rattle.std.specs.Fmt.{decimal}
use Rattle.csv.specs.Machine.{next_record}
use Rattle.csv.specs.Reading.{default_config, records_from, strip_bom}
use Rattle.csv.specs.declared.parser.State.TheVariants as st
use Rattle.resil_rule.specs.declared.event.Id.{Id}
use Rattle.resil_jdk.specs.declared.event.JdkReply.{JdkReply}
use Rattle.resil_jdk.specs.declared.event.JdkReply.TheVariants.{Core}
use Rattle.resil_jdk.specs.declared.event.JdkEvent.{JdkEvent}
use Rattle.resil_jdk.specs.declared.event.JdkEvent.TheVariants.{Submit, Take, Finish, IdleEnd, Close, Resized, Start, Cull, Remove, Stop, TimeOut}
use Rattle.resil_input.specs.CsvRows.{ParseAs, records_of, row_under}
use Rattle.resil_input.specs.CsvTable.{ArePlain, IsPlain, record_text as line_text}
use Rattle.resil_input.specs.Number.{parse_from_zero, parse_number_below}
use Rattle.resil_input.proofs.NumberLaws.{below-round_trip, from_zero-round_trip}
use Rattle.resil_input.proofs.PlainLaws.{IsPlain_number}
use Rattle.resil_input.proofs.RecordLaws.{records_from-end, records_from-next}
use Rattle.resil_input.proofs.RowLaws.{rows-unique}
use Rattle.resil_input.proofs.TableLaws.{record-read}
use Rattle.resil_record.specs.Body.{IsRecordBody, record_header}
use Rattle.resil_record.specs.Row.{parse_event, parse_reply, parse_row, parse_switch, reply_name, switch_name}
use Rattle.resil_record.specs.Text.{FitsEvent, FitsId, FitsRow, RecordsRoundTrip, event_fields, record_text, row_fields}
use Rattle.resil_jdk.specs.declared.timed.TimedJdkEvent.{TimedJdkEvent}

-- ---- One record.

pub IsPlain_reply_name : (reply : JdkReply) → IsPlain (reply_name reply)
IsPlain_reply_name Core = refl
IsPlain_reply_name reply = refl

pub IsPlain_switch_name : (on : Bool) → IsPlain (switch_name on)
IsPlain_switch_name true = refl
IsPlain_switch_name false = refl

reply-read : (reply : JdkReply) → parse_reply (reply_name reply) ≡ Some reply
reply-read Core = refl
reply-read reply = refl

switch-read : (on : Bool) → parse_switch (switch_name on) ≡ Some on
switch-read true = refl
switch-read false = refl

wide : (event : JdkEvent) (at : List ℕ) → length (event_fields event at) ≡ 8
wide (Submit id reply) at = refl
wide event at = refl

plain-fields : (event : JdkEvent) (at : ℕ) → ArePlain (event_fields event (decimal at))
plain-fields (Submit id reply) at = rw (IsPlain_number id.caller, IsPlain_number id.number, IsPlain_reply_name reply, IsPlain_number at) refl
plain-fields (Take id) at = rw (IsPlain_number id.caller, IsPlain_number id.number, IsPlain_number at) refl
plain-fields (Finish id) at = rw (IsPlain_number id.caller, IsPlain_number id.number, IsPlain_number at) refl
plain-fields (Remove id) at = rw (IsPlain_number id.caller, IsPlain_number id.number, IsPlain_number at) refl
plain-fields (Resized core max) at = rw (IsPlain_number core, IsPlain_number max, IsPlain_number at) refl
plain-fields (TimeOut on) at = rw (IsPlain_switch_name on, IsPlain_number at) refl
plain-fields IdleEnd at = rw (IsPlain_number at) refl
plain-fields Close at = rw (IsPlain_number at) refl
plain-fields Start at = rw (IsPlain_number at) refl
plain-fields Cull at = rw (IsPlain_number at) refl
plain-fields Stop at = rw (IsPlain_number at) refl

-- the numbers of an id are read
module _ (id : Id) (fits : FitsId id) where
  caller-read : parse_number_below (2 ^ 16) (decimal id.caller) ≡ Some id.caller
  caller-read = below-round_trip (2 ^ 16) id.caller fits.0.0 (omega (arith, fits.0.1)) fits.0.1

  number-read : parse_number_below (2 ^ 64) (decimal id.number) ≡ Some id.number
  number-read = below-round_trip (2 ^ 64) id.number fits.1.0 fits.1.1 fits.1.1

event-read : (event : JdkEvent) (at : List ℕ) → FitsEvent event → parse_event (event_fields event at) ≡ Some event
event-read (Submit id reply) at fits = rw (caller-read id fits, number-read id fits, reply-read reply) refl
event-read (Take id) at fits = rw (caller-read id fits, number-read id fits) refl
event-read (Finish id) at fits = rw (caller-read id fits, number-read id fits) refl
event-read (Remove id) at fits = rw (caller-read id fits, number-read id fits) refl
event-read (Resized core max) at fits = rw (from_zero-round_trip (2 ^ 32) core (omega arith) fits.0, from_zero-round_trip (2 ^ 32) max (omega arith) fits.1) refl
event-read (TimeOut on) at fits = rw (switch-read on) refl
event-read IdleEnd at fits = refl
event-read Close at fits = refl
event-read Start at fits = refl
event-read Cull at fits = refl
event-read Stop at fits = refl

-- the last field is the time
last-field : (event : JdkEvent) (at : List ℕ) → get_or (event_fields event at) 7 [] ≡ at
last-field (Submit id reply) at = refl
last-field event at = refl

row-read : (timed : TimedJdkEvent) → FitsRow timed → row_under record_header parse_row (row_fields timed) ≡ Some timed
row-read timed fits =
    let event = event-read timed.event (decimal timed.at) fits.0 in
    let time : parse_from_zero (2 ^ 64) (get_or (row_fields timed) 7 []) ≡ Some timed.at = rw (last-field timed.event (decimal timed.at)) (from_zero-round_trip (2 ^ 64) timed.at (omega arith) fits.1) in
    rw (wide timed.event (decimal timed.at), event, time) refl

-- ---- All of them.

-- the records that `csv` reads in a text
abbrev read_records : List ℕ → List (List (List ℕ))
read_records text = records_from default_config (suc (length text)) st.StartRecord text

-- the record of plain fields is the first of a text that begins with it
record-first : (fields : List (List ℕ)) (rest : List ℕ) → 1 < length fields → ArePlain fields → read_records (line_text fields ++ rest) ≡ fields ∷ read_records rest
record-first fields rest several plain =
    (records_from-next st.StartRecord st.StartRecord (line_text fields ++ rest) rest fields refl (record-read fields rest several plain)).0

rows-parse : (history : List TimedJdkEvent) → All FitsRow history → ParseAs record_header parse_row (map row_fields history) history
rows-parse [] fit = refl
rows-parse (timed ∷ history) fit = rw (row-read timed (fit zero timed (omega arith)), rows-parse history (λ k d lt. fit (suc k) d (omega arith))) refl

rows-records : (history : List TimedJdkEvent) → read_records (flat_map line_text (map row_fields history)) ≡ map row_fields history
unfolding next_record
rows-records [] = records_from-end 0 st.StartRecord [] refl
rows-records (timed ∷ history) =
    record-first (row_fields timed) (flat_map line_text (map row_fields history)) (let w = wide timed.event (decimal timed.at) in omega (arith, w)) (plain-fields timed.event timed.at)
    ∙ ap (λ (t : List (List (List ℕ))). row_fields timed ∷ t) (rows-records history)

-- the header doesn't begin with a byte order mark
text-records : (history : List TimedJdkEvent) → records_of (record_text history) ≡ record_header ∷ map row_fields history
unfolding strip_bom
text-records history =
    let read : read_records (record_text history) ≡ record_header ∷ map row_fields history =
    record-first record_header (flat_map line_text (map row_fields history)) (omega arith) refl
    ∙ ap (λ (t : List (List (List ℕ))). record_header ∷ t) (rows-records history) in
    rw add-one read

pub records-round_trip : RecordsRoundTrip
records-round_trip history fit =
    let read : IsRecordBody (record_text history) history = (map row_fields history, text-records history, rows-parse history fit) in
    (read, λ other body. rows-unique record_header parse_row (record_text history) other history body read)
