-- The rule of the permit word: what holds of the word and of all that passes know, between any two steps.
use Rattle.std.specs.Prelude.{◌≡◌, ◌≢◌, ℕ, ◌+◌, ◌<◌, ◌≤◌, List, [], length, slice_index}
use mathlib.Core.List.{IsPrefix}
use Rattle.atomic_table.specs.Table.{State}
use Rattle.resil_permit.specs.declared.event.PermitEvent.{PermitEvent}
use Rattle.resil_permit.specs.declared.protocol.Phase.{Phase}
use Rattle.resil_permit.specs.declared.protocol.Phase.TheVariants.{Idle, Loaded, Joining, Splitting, Joined}
use Rattle.resil_permit.specs.declared.protocol.View.{View}
use Rattle.resil_permit.specs.History.{is_event_of, events_of_seat, taken_count, retired_count, raised_count, let_go_count, holders, in_use_count, IsLegal}
use Rattle.resil_permit.specs.Log.Seen.{longer_of}
use Rattle.resil_permit.specs.Log.Seats as seats
use Rattle.resil_permit.specs.Log.Seats.{IsLogOf}

abbrev pub view_of : ℕ → ℕ → List PermitEvent → Phase → View
view_of number max seen phase = record { number = number; max = max; seen = seen; phase = phase }

-- the pass at this index has its number, has seen a prefix of the log, and has seen all its own events in the log
abbrev pub IsLive : ℕ → List PermitEvent → ℕ → View → Type 0
IsLive max log place v = seats.IsLive is_event_of max log place v.number v.max v.seen

-- between load and exchange: the number loaded is not 0, and is that of the free permits after everything that it has seen
pub record IsLoaded (max : ℕ) (log : List PermitEvent) (place : ℕ) (v : View) (loaded : ℕ) : Type 0 where
  pub live : IsLive max log place v
  pub some : 0 < loaded
  pub free : loaded + length (holders v.seen) ≡ in_use_count max v.seen

-- between the two loads of a split: the new pass still has its parent's number, and the log has no event of its own
pub record IsSplitting (max : ℕ) (log : List PermitEvent) (place : ℕ) (v : View) : Type 0 where
  pub unnumbered : v.number ≢ place
  pub bounded : v.max ≡ max
  pub begins : IsPrefix v.seen log
  pub no_events : events_of_seat place log ≡ []

-- between the two loads of a join: what each pass had seen is kept. This pass's part has all its own events, and the other had another number
pub record IsJoining (max : ℕ) (log : List PermitEvent) (place : ℕ) (v : View) (other_number : ℕ) (mine other : List PermitEvent) : Type 0 where
  pub live : IsLive max log place v
  pub begins : IsPrefix mine log
  pub other_begins : IsPrefix other log
  pub all_own : events_of_seat place mine ≡ events_of_seat place log
  pub apart : other_number ≢ v.number

-- a pass that was joined away holds none of what it took and has no retired permit, and what it had seen is gone
pub record IsJoinedAway (log : List PermitEvent) (place : ℕ) (v : View) : Type 0 where
  pub nothing_seen : v.seen ≡ []
  pub even : taken_count place log ≡ let_go_count place log
  pub none_retired : retired_count place log ≡ raised_count place log

-- what the rule says of a pass in each phase
abbrev pub FitsPassPhase : ℕ → List PermitEvent → ℕ → View → Phase → Type 0
FitsPassPhase max log place v Idle = IsLive max log place v
FitsPassPhase max log place v (Loaded n) = IsLoaded max log place v n
FitsPassPhase max log place v (Joining number mine other) = IsJoining max log place v number mine other
FitsPassPhase max log place v Splitting = IsSplitting max log place v
FitsPassPhase max log place v Joined = IsJoinedAway log place v

-- what the rule says of the view at this index
abbrev pub Fits : ℕ → List PermitEvent → ℕ → View → Type 0
Fits max log place v = FitsPassPhase max log place v v.phase

-- There is one legal log. Each pass has seen a prefix of it, and some pass has seen it whole. Each of its events is in what the pass of its number
-- has seen, unless that pass was joined away, holding nothing and with no retired permit. The word is the permits in use less the holders
pub record PermitWordInvariant (max : ℕ) (words : List ℕ) (views : List View) : Type 0 where
  pub log : List PermitEvent
  pub few : max ≤ 65535
  pub one_word : length words ≡ 1
  pub counts : slice_index words 0 + length (holders log) ≡ in_use_count max log
  pub shared : IsLogOf (λ (v : View). v.seen) (IsLegal max) is_event_of (Fits max log) log views

-- the rule of the word for these permits
abbrev pub Rule : ℕ → State (Unit {0}) View → Type 0
Rule max s = PermitWordInvariant max s.words s.views

-- the first pass has seen nothing
abbrev pub first_pass_view : ℕ → View
first_pass_view max = view_of 0 max [] Idle

-- a pass that is split off starts as a copy of its parent
abbrev pub splitting_view : View → View
splitting_view v = view_of v.number v.max v.seen Splitting

-- a pass that another joins has seen what either had seen; both lists, and the number of the other, are kept until the next load
abbrev pub joining_pass_view : View → View → View
joining_pass_view v w = view_of v.number v.max (longer_of v.seen w.seen) (Joining w.number v.seen w.seen)

-- what is left of a pass that was joined away
abbrev pub joined_view : View
joined_view = view_of 0 0 [] Joined
