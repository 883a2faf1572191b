-- What holds of a running pool between any two steps, whichever threads make them: of the word `turn`, of the slot of the machine, and of what all seats have seen.
use Rattle.std.specs.Prelude.{◌≡◌, ◌≢◌, ◌⊎◌, ◌↔◌, ℕ, ◌≤◌, ◌<◌, true, List, [], length, slice_index, Contains, Option}
use mathlib.Core.Option as math
use Rattle.resil_pool.specs.Words.{Sizes, AreLimits, times, is_among, running, Id, Reply, Submit, LoggedEvent, PoolState}
use Rattle.resil_lock.specs.declared.log.Note.TheVariants as note
use Rattle.resil_lock.specs.Lock.{holds_lock, is_there}
use Rattle.resil_lock.specs.BetweenSteps.{IsSeatAt, HasOneHolder, HasNoHolder, IsSlotOut, IsLongest, IsInSlot}
use Rattle.resil_pool.specs.Lock.{View, closer_number, events_in, picked_in, ended_in, own_in, IsLegalLog, MatchesLog}

-- the word `turn`
abbrev pub turn : List ℕ → ℕ
turn words = slice_index words 0

-- what is in a slot, unless a seat has it
abbrev pub Home : Type 0
Home = math.Option (Option PoolState)

-- the machine is in the slot
abbrev pub HasMachine : List Home → Type 0
HasMachine homes = (state : PoolState) × IsInSlot homes state

-- the seat that holds the turn knows the limits and the whole history, with its plans, that the machine had in the slot
pub record KnowsMachine (limits : Sizes) (history : List LoggedEvent) (v : View) : Type 0 where
  pub sized : v.key.limits ≡ limits
  pub whole : v.seen ≡ history

-- all seats that weren't joined away have different numbers
abbrev pub AreNumbersApart : List View → Type 0
AreNumbersApart views =
    (index other : ℕ) (v w : View) → IsSeatAt views index v → IsSeatAt views other w → index ≢ other → is_there v.phase ≡ true → is_there w.phase ≡ true → v.number ≢ w.number

-- each submission in the history is, with its plan, in what the seat of its caller has seen, unless that seat was joined away
abbrev pub StandWithTheirCallers : List LoggedEvent → List View → Type 0
StandWithTheirCallers history views =
    (submission : LoggedEvent) (id : Id) (reply : Reply) → Contains history submission → submission.note ≡ note.Event (Submit id reply)
    → (caller : View) × IsSeatAt views id.caller caller × (is_there caller.phase ≡ true → Contains caller.seen submission)

-- the closer has the first seat, which is never joined away, and which knows how many seats there are
pub record HasCloser (views : List View) : Type 0 where
  pub seat : View
  pub first : IsSeatAt views 0 seat
  pub there : is_there seat.phase ≡ true
  pub number : seat.number ≡ closer_number
  pub counted : seat.made ≡ length views

-- What holds between any two steps of a pool of these limits. There is one word, the turn, which is 0 or 1, and one slot. The word is 1 exactly while
-- one seat holds the turn, and 0 exactly while none does. The machine is in the slot exactly while the word is 0, and the slot is out exactly while
-- it is 1. The history is legal, and it is the longest that a seat has seen; what every other seat has seen is a prefix of it. In the slot the
-- machine has the limits that the pool was opened with, the events of the history, and as plans of its accepted jobs those of the history; the holder
-- of the turn keeps what it had there. A seat's number is its index, so all numbers differ; each seat has seen its own events, in their order, and
-- there are no others; so each submission is with its caller. There are never more jobs running than the maximum size that the pool was opened with,
-- and those picked and not ended are among them. The closer has a seat of its own
pub record HoldsBetweenTurns (limits : Sizes) (words : List ℕ) (homes : List Home) (views : List View) : Type 0 where
  pub one_word : length words ≡ 1
  pub one_slot : length homes ≡ 1
  pub bit : (turn words ≡ 0) ⊎ (turn words ≡ 1)
  pub taken : (turn words ≡ 1) ↔ HasOneHolder views
  pub free : (turn words ≡ 0) ↔ HasNoHolder views
  pub in_slot : (turn words ≡ 0) ↔ HasMachine homes
  pub out : (turn words ≡ 1) ↔ IsSlotOut homes
  pub history : List LoggedEvent
  pub legal : IsLegalLog limits history
  pub longest : IsLongest history views
  pub at_home : (state : PoolState) → IsInSlot homes state → MatchesLog limits history state.machine
  pub holder : (index : ℕ) (v : View) → IsSeatAt views index v → holds_lock v.phase ≡ true → KnowsMachine limits history v
  pub opened : (index : ℕ) (v : View) → IsSeatAt views index v → is_there v.phase ≡ true → v.key.limits ≡ limits
  pub numbered : (index : ℕ) (v : View) → IsSeatAt views index v → is_there v.phase ≡ true → v.number ≡ index
  pub apart : AreNumbersApart views
  pub own : (number : ℕ) (v : View) → IsSeatAt views number v → is_there v.phase ≡ true → own_in number v.seen ≡ own_in number history
  pub no_others : (number : ℕ) → length views ≤ number → own_in number history ≡ []
  pub submissions : StandWithTheirCallers history views
  pub at_once : AreLimits limits → length (running (events_in history)) ≤ limits.max
  pub out_runs : (id : Id) → times id (ended_in history) < times id (picked_in history) → is_among id (running (events_in history)) ≡ true
  pub closer : HasCloser views
