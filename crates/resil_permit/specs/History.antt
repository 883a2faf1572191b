-- Permit histories: who took a permit, gave one back, was refused one, retired one or raised one again, in one order. They don't mention the word.
--
-- A retired permit is kept back by its holder: it is neither free nor held, and one permit less is in use, until the same seat raises it again.
use Rattle.std.specs.Prelude.{◌≡◌, ℕ, ◌+◌, ◌-◌, ◌<◌, ◌==◌, Bool, true, false, if◌then◌else◌, List, [], ◌∷◌, ◌++◌, length, filter, count_by}
use Rattle.resil_permit.specs.declared.event.PermitEvent.{PermitEvent}
use Rattle.resil_permit.specs.declared.event.PermitEvent.TheVariants.{Took, Gave, Refused, Retired, Raised}

-- the seat of an event
abbrev pub seat_of : PermitEvent → ℕ
seat_of (Took s) = s
seat_of (Gave s) = s
seat_of (Refused s) = s
seat_of (Retired s) = s
seat_of (Raised s) = s

abbrev pub is_taking : PermitEvent → Bool
is_taking (Took s) = true
is_taking _ = false

abbrev pub is_giving : PermitEvent → Bool
is_giving (Gave s) = true
is_giving _ = false

abbrev pub is_retiring : PermitEvent → Bool
is_retiring (Retired s) = true
is_retiring _ = false

abbrev pub is_raising : PermitEvent → Bool
is_raising (Raised s) = true
is_raising _ = false

abbrev pub is_event_of : ℕ → PermitEvent → Bool
is_event_of s e = seat_of e == s

-- the events of one seat, in order
abbrev pub events_of_seat : ℕ → List PermitEvent → List PermitEvent
events_of_seat s events = filter (is_event_of s) events

-- how many permits a seat has taken, given back, retired and raised again
abbrev pub taken_count : ℕ → List PermitEvent → ℕ
taken_count s events = count_by is_taking (events_of_seat s events)

abbrev pub given_count : ℕ → List PermitEvent → ℕ
given_count s events = count_by is_giving (events_of_seat s events)

abbrev pub retired_count : ℕ → List PermitEvent → ℕ
retired_count s events = count_by is_retiring (events_of_seat s events)

abbrev pub raised_count : ℕ → List PermitEvent → ℕ
raised_count s events = count_by is_raising (events_of_seat s events)

-- how many of the permits that it took a seat no longer holds: it gave them back or retired them
abbrev pub let_go_count : ℕ → List PermitEvent → ℕ
let_go_count s events = given_count s events + retired_count s events

-- how often a seat is in a multiset
abbrev pub copies_of : ℕ → List ℕ → ℕ
copies_of s multiset = count_by (λ x. x == s) multiset

-- the multiset with one copy less of this seat
abbrev pub without_one : ℕ → List ℕ → List ℕ
without_one s [] = []
without_one s (x ∷ xs) = if x == s then xs else (x ∷ without_one s xs)

-- the multiset of holders after one more event
abbrev pub holders_after : List ℕ → PermitEvent → List ℕ
holders_after multiset (Took s) = s ∷ multiset
holders_after multiset (Gave s) = without_one s multiset
holders_after multiset (Refused s) = multiset
holders_after multiset (Retired s) = without_one s multiset
holders_after multiset (Raised s) = multiset

abbrev pub holders_from : List ℕ → List PermitEvent → List ℕ
holders_from multiset [] = multiset
holders_from multiset (e ∷ es) = holders_from (holders_after multiset e) es

-- the holders: the multiset of seats that took a permit and have neither given it back nor retired it, each as often as it holds one
abbrev pub holders : List PermitEvent → List ℕ
holders events = holders_from [] events

-- the permits in use: max, less the Retired, plus the Raised
abbrev pub in_use_count : ℕ → List PermitEvent → ℕ
in_use_count max events = (max + count_by is_raising events) - count_by is_retiring events

-- the free permits: those in use that nobody holds
abbrev pub free_count : ℕ → List PermitEvent → ℕ
free_count max events = in_use_count max events - length (holders events)

-- whether an event is allowed after the events before it. A seat takes while fewer are held than are in use, and is refused while exactly those in use are held;
-- it gives back or retires what it holds, and raises what it has retired and not raised yet
abbrev pub IsAllowed : ℕ → List PermitEvent → PermitEvent → Type 0
IsAllowed max before (Took s) = length (holders before) < in_use_count max before
IsAllowed max before (Gave s) = 0 < copies_of s (holders before)
IsAllowed max before (Refused s) = length (holders before) ≡ in_use_count max before
IsAllowed max before (Retired s) = 0 < copies_of s (holders before)
IsAllowed max before (Raised s) = raised_count s before < retired_count s before

abbrev pub IsLegalFrom : ℕ → List PermitEvent → List PermitEvent → Type 0
IsLegalFrom max before [] = Unit {0}
IsLegalFrom max before (e ∷ es) = IsAllowed max before e × IsLegalFrom max (before ++ e ∷ []) es

-- a legal history: each event is allowed after the events before it
abbrev pub IsLegal : ℕ → List PermitEvent → Type 0
IsLegal max events = IsLegalFrom max [] events
