-- The text of a history with times is read as that history.
use Rattle.resil_replay.proofs.Words.{ℕ, ◌≡◌, ◌∙◌, ◌^◌, ◌++◌, ◌∷◌, zero, suc, List, [], Option, Some, None, get_or, map, length, refl, sym, ap, add-one, arith, All, flat_map, decimal, Event, Submit, Take, Finish, IdleEnd, Close, Resized, parse_event, event_fields, history_header, record_fields, FitsTimed, IsHistoryBody, IsTimedBody, TimedHistoriesRoundTrip, parse_timed, timed_fields, timed_header, timed_text, Version, One, Two, ParseAs, records_of, row_under, ArePlain, record_text, from_zero-round_trip, IsPlain_number, records_from-end, rows-unique}
use Rattle.csv.specs.Machine.{next_record}
use Rattle.csv.specs.Reading.{strip_bom}
use Rattle.resil_rule.specs.Timed.{events_in, times_in}
use Rattle.resil_rule.specs.declared.timed.Timed.{Timed}
use Rattle.resil_input.specs.Number.{parse_from_zero}
use Rattle.csv.specs.declared.parser.State.TheVariants as st
use Rattle.resil_replay.proofs.EventLaws.{event-read}
use Rattle.resil_replay.proofs.HistoryLaws.{IsPlain_reply_name, read_records, record-first}

-- ---- One record.

wide : (event : Event) (at : List ℕ) → length (event_fields event ++ at ∷ []) ≡ 7
wide (Submit id reply) at = refl
wide event at = refl

last-field : (event : Event) (at : List ℕ) → get_or (event_fields event ++ at ∷ []) 6 [] ≡ at
last-field (Submit id reply) at = refl
last-field event at = refl

-- the event is that of the first six fields
front-fields : (event : Event) (at : List ℕ) → parse_event (event_fields event ++ at ∷ []) ≡ row_under (history_header Two) parse_event (record_fields Two event)
front-fields (Submit id reply) at = refl
front-fields event at = refl

plain-fields : (event : Event) (at : ℕ) → ArePlain (event_fields event ++ decimal at ∷ [])
plain-fields (Submit id reply) at = rw (IsPlain_number id.caller, IsPlain_number id.number, IsPlain_reply_name reply, IsPlain_number at) refl
plain-fields (Take id) at = rw (IsPlain_number id.caller, IsPlain_number id.number, IsPlain_number at) refl
plain-fields (Finish id) at = rw (IsPlain_number id.caller, IsPlain_number id.number, IsPlain_number at) refl
plain-fields IdleEnd at = rw (IsPlain_number at) refl
plain-fields Close at = rw (IsPlain_number at) refl
plain-fields (Resized core max) at = rw (IsPlain_number core, IsPlain_number max, IsPlain_number at) refl

timed-read : (timed : Timed) → FitsTimed timed → row_under timed_header parse_timed (timed_fields timed) ≡ Some timed
timed-read timed fits =
    let event = front-fields timed.event (decimal timed.at) ∙ event-read Two timed.event fits.0 in
    let time : parse_from_zero (2 ^ 64) (get_or (timed_fields timed) 6 []) ≡ Some timed.at = rw (last-field timed.event (decimal timed.at)) (from_zero-round_trip (2 ^ 64) timed.at (omega arith) fits.1) in
    rw (wide timed.event (decimal timed.at), event, time) refl

-- ---- All of them.

history-parses : (history : List Timed) → All FitsTimed history → ParseAs timed_header parse_timed (map timed_fields history) history
history-parses [] fit = refl
history-parses (timed ∷ history) fit =
    rw (timed-read timed (fit zero timed (omega arith)), history-parses history (λ k d lt. fit (suc k) d (omega arith))) refl

records-read : (history : List Timed) → read_records (flat_map record_text (map timed_fields history)) ≡ map timed_fields history
unfolding next_record
records-read [] = records_from-end 0 st.StartRecord [] refl
records-read (timed ∷ history) =
    record-first (timed_fields timed) (flat_map record_text (map timed_fields history)) (let w = wide timed.event (decimal timed.at) in omega (arith, w)) (plain-fields timed.event timed.at)
    ∙ ap (λ (t : List (List (List ℕ))). timed_fields timed ∷ t) (records-read history)

-- no header begins with a byte order mark
text-records : (history : List Timed) → records_of (timed_text history) ≡ timed_header ∷ map timed_fields history
unfolding strip_bom
text-records history =
    let read : read_records (timed_text history) ≡ timed_header ∷ map timed_fields history =
    record-first timed_header (flat_map record_text (map timed_fields history)) (omega arith) refl
    ∙ ap (λ (t : List (List (List ℕ))). timed_header ∷ t) (records-read history) in
    rw add-one read

-- its header is that of no other version
other-header : (version : Version) (ours theirs : List (List (List ℕ))) → timed_header ∷ ours ≡ history_header version ∷ theirs → ⊥
other-header One ours theirs e = omega (arith, ap (λ (records : List (List (List ℕ))). length (get_or records 0 [])) e)
other-header Two ours theirs e = omega (arith, ap (λ (records : List (List (List ℕ))). length (get_or records 0 [])) e)

pub timed-round_trip : TimedHistoriesRoundTrip
timed-round_trip history fit = ((history, read, refl, refl), no-other)
  where
    read : IsTimedBody (timed_text history) history
    read = (map timed_fields history, text-records history, history-parses history fit)

    no-other : (events : List Event) (times : Option (List ℕ)) → IsHistoryBody (timed_text history) events times → (events ≡ events_in history) × (times ≡ Some (times_in history))
    no-other events None body = absurd (other-header body.0 (map timed_fields history) body.1.0 (sym (text-records history) ∙ body.1.1))
    no-other events (Some times) body =
        let same = rows-unique timed_header parse_timed (timed_text history) body.0 history body.1 read in
        (body.2 ∙ ap events_in same, ap Some (body.3 ∙ ap times_in same))
