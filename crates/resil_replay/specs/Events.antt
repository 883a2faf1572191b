-- The body of an `audit`: a history in one of the two versions of its text, with a record for each event.
use Rattle.std.specs.Prelude.{ℕ, ◌≡◌, ◌==◌, ◌&&◌, ◌||◌, not, [], List, All, Option, Some, None, if◌then◌else◌, codes, get_or, length, option_map, option_and_then}
use Rattle.resil_rule.specs.declared.event.Reply.{Reply}
use Rattle.resil_rule.specs.declared.event.Reply.TheVariants.{Core, Queued, Extra, Full, Closed}
use Rattle.resil_rule.specs.declared.event.Event.{Event}
use Rattle.resil_rule.specs.declared.event.Event.TheVariants.{Submit, Take, Finish, IdleEnd, Close, Resized}
use Rattle.resil_replay.specs.Id.{parse_id}
use Rattle.resil_replay.specs.Sizes.{parse_sizes}
use Rattle.resil_replay.specs.Versions.{IsVersionsError}
use Rattle.resil_replay.specs.declared.history.Version.{Version}
use Rattle.resil_replay.specs.History.{history_header, history_text, FitsEvent}
use Rattle.resil_input.specs.Answer.{reply_name}
use Rattle.resil_input.specs.CsvRows.{IsBody}
use Rattle.resil_input.specs.TextEquality.{is_same}
use Rattle.resil_input.specs.declared.csv_rows.BodyError.{BodyError}

-- the reply that a field is the name of
abbrev pub parse_reply : List ℕ → Option Reply
parse_reply name =
    if is_same name (reply_name Core) then Some Core
    else if is_same name (reply_name Queued) then Some Queued
    else if is_same name (reply_name Extra) then Some Extra
    else if is_same name (reply_name Full) then Some Full
    else if is_same name (reply_name Closed) then Some Closed
    else None

-- the event without a reply that three fields are read as; if it names no job, the fields of the job are empty
abbrev pub parse_unanswered_event : List ℕ → List ℕ → List ℕ → Option Event
parse_unanswered_event event caller number =
    if is_same event (codes "take") then option_map Take (parse_id caller number)
    else if is_same event (codes "finish") then option_map Finish (parse_id caller number)
    else if not (length caller == 0) || not (length number == 0) then None
    else if is_same event (codes "idle") then Some IdleEnd
    else if is_same event (codes "close") then Some Close
    else None

-- the event without sizes that four fields are read as; only a submission has a reply
abbrev pub parse_unsized_event : List ℕ → List ℕ → List ℕ → List ℕ → Option Event
parse_unsized_event event caller number reply =
    if is_same event (codes "submit") then option_and_then (λ id. option_map (Submit id) (parse_reply reply)) (parse_id caller number)
    else if length reply == 0 then parse_unanswered_event event caller number
    else None

-- the event that six fields are read as
abbrev pub parse_event_fields : List ℕ → List ℕ → List ℕ → List ℕ → List ℕ → List ℕ → Option Event
parse_event_fields event caller number reply core max =
    if is_same event (codes "resize") && (length caller == 0) && (length number == 0) && (length reply == 0)
    then option_map (λ sizes. Resized sizes.0 sizes.1) (parse_sizes core max)
    else if (length core == 0) && (length max == 0) then parse_unsized_event event caller number reply
    else None

-- the event that a record is read as; the fields that its version doesn't have are empty
abbrev pub parse_event : List (List ℕ) → Option Event
parse_event fields = parse_event_fields (get_or fields 0 []) (get_or fields 1 []) (get_or fields 2 []) (get_or fields 3 []) (get_or fields 4 []) (get_or fields 5 [])

-- a body of these events, in the version that its header says
abbrev pub IsAuditBody : List ℕ → List Event → Type 0
IsAuditBody body history = (version : Version) × IsBody (history_header version) parse_event body history

-- why a body isn't a history
abbrev pub IsAuditBodyError : List ℕ → BodyError → Type 0
IsAuditBodyError body why = IsVersionsError history_header parse_event body why

-- The text of a history, in a version that has its events, with callers and numbers from 1 on, is read as that history, and as no other.
abbrev pub HistoriesRoundTrip : Type 0
HistoriesRoundTrip = (version : Version) (history : List Event) → All (FitsEvent 1 version) history
    → IsAuditBody (history_text version history) history × ((other : List Event) → IsAuditBody (history_text version history) other → other ≡ history)
