-- The event and the time that a record of version 4 is read as.
use Rattle.std.specs.Prelude.{ℕ, ◌==◌, ◌&&◌, ◌^◌, ◌∷◌, [], Bool, true, false, List, Option, Some, None, if◌then◌else◌, codes, get_or, length, option_and_then, option_map}
use Rattle.std.specs.List.{list_all}
use Rattle.resil_rule.specs.declared.event.Id.{Id}
use Rattle.resil_jdk.specs.declared.event.JdkReply.{JdkReply}
use Rattle.resil_jdk.specs.declared.event.JdkReply.TheVariants.{Core, First, Queued, Handed, Extra, Full, Closed}
use Rattle.resil_jdk.specs.declared.event.JdkEvent.{JdkEvent}
use Rattle.resil_jdk.specs.declared.event.JdkEvent.TheVariants.{Submit, Take, Finish, IdleEnd, Close, Resized, Start, Cull, Remove, Stop, TimeOut}
use Rattle.resil_input.specs.Number.{parse_caller, parse_from_zero, parse_number}
use Rattle.resil_input.specs.TextEquality.{is_same}
use Rattle.resil_jdk.specs.declared.timed.TimedJdkEvent.{TimedJdkEvent}

-- the name of a reply
abbrev pub reply_name : JdkReply → List ℕ
reply_name Core = codes "core"
reply_name First = codes "first"
reply_name Queued = codes "queued"
reply_name Handed = codes "handed"
reply_name Extra = codes "extra"
reply_name Full = codes "full"
reply_name Closed = codes "closed"

-- the reply whose name a field is
abbrev pub parse_reply : List ℕ → Option JdkReply
parse_reply name =
    if is_same name (reply_name Core) then Some Core
    else if is_same name (reply_name First) then Some First
    else if is_same name (reply_name Queued) then Some Queued
    else if is_same name (reply_name Handed) then Some Handed
    else if is_same name (reply_name Extra) then Some Extra
    else if is_same name (reply_name Full) then Some Full
    else if is_same name (reply_name Closed) then Some Closed
    else None

-- whether the fields at these places are empty
abbrev pub are_empty : List (List ℕ) → List ℕ → Bool
are_empty fields places = list_all (λ place. length (get_or fields place []) == 0) places

-- the id in the second and the third field
abbrev pub parse_id : List (List ℕ) → Option Id
parse_id fields =
    option_and_then (λ c. option_map (λ n. record { caller = c; number = n }) (parse_number (get_or fields 2 []))) (parse_caller (get_or fields 1 []))

-- the resize to the sizes in the fifth and the sixth field, each from 0 to 4,294,967,295
abbrev pub parse_sizes : List (List ℕ) → Option JdkEvent
parse_sizes fields =
    option_and_then (λ core. option_map (λ max. Resized core max) (parse_from_zero (2 ^ 32) (get_or fields 5 []))) (parse_from_zero (2 ^ 32) (get_or fields 4 []))

-- on, or off
abbrev pub switch_name : Bool → List ℕ
switch_name true = codes "on"
switch_name false = codes "off"

abbrev pub parse_switch : List ℕ → Option Bool
parse_switch field = if is_same field (switch_name true) then Some true else if is_same field (switch_name false) then Some false else None

-- the event whose name a field is, if it has no other field
abbrev pub parse_lone_event : List ℕ → Option JdkEvent
parse_lone_event name =
    if is_same name (codes "idle") then Some IdleEnd
    else if is_same name (codes "close") then Some Close
    else if is_same name (codes "start") then Some Start
    else if is_same name (codes "cull") then Some Cull
    else if is_same name (codes "stop") then Some Stop
    else None

-- the event that a record is read as: its first field is the name, and the fields that an event of this name doesn't use are empty
abbrev pub parse_event : List (List ℕ) → Option JdkEvent
parse_event fields =
    let name = get_or fields 0 [] in
    if is_same name (codes "submit") && are_empty fields (4 ∷ 5 ∷ 6 ∷ []) then option_and_then (λ id. option_map (Submit id) (parse_reply (get_or fields 3 []))) (parse_id fields)
    else if is_same name (codes "take") && are_empty fields (3 ∷ 4 ∷ 5 ∷ 6 ∷ []) then option_map Take (parse_id fields)
    else if is_same name (codes "finish") && are_empty fields (3 ∷ 4 ∷ 5 ∷ 6 ∷ []) then option_map Finish (parse_id fields)
    else if is_same name (codes "remove") && are_empty fields (3 ∷ 4 ∷ 5 ∷ 6 ∷ []) then option_map Remove (parse_id fields)
    else if is_same name (codes "resize") && are_empty fields (1 ∷ 2 ∷ 3 ∷ 6 ∷ []) then parse_sizes fields
    else if is_same name (codes "time_out") && are_empty fields (1 ∷ 2 ∷ 3 ∷ 4 ∷ 5 ∷ []) then option_map TimeOut (parse_switch (get_or fields 6 []))
    else if are_empty fields (1 ∷ 2 ∷ 3 ∷ 4 ∷ 5 ∷ 6 ∷ []) then parse_lone_event name
    else None

-- the event and its time, from 0 to 2 ^ 64 - 1, that a record is read as
abbrev pub parse_row : List (List ℕ) → Option TimedJdkEvent
parse_row fields = option_and_then (λ event. option_map (λ at. record { event = event; at = at }) (parse_from_zero (2 ^ 64) (get_or fields 7 []))) (parse_event fields)
