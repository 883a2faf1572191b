-- What holds of the word and of all passes between any two steps, whichever threads make them.
use Rattle.std.specs.Prelude.{◌≡◌, ◌≢◌, ℕ, ◌+◌, ◌<◌, ◌≤◌, List, [], length, slice_index}
use mathlib.Core.Option.{some}
use mathlib.Core.List.{IsPrefix}
use lib.ListN.{get_elem?}
use Rattle.resil_permit.specs.declared.event.PermitEvent.{PermitEvent}
use Rattle.resil_permit.specs.declared.protocol.Phase.{Phase}
use Rattle.resil_permit.specs.declared.protocol.Phase.TheVariants.{Loaded, Splitting, Joined}
use Rattle.resil_permit.specs.declared.protocol.View.{View}
use Rattle.resil_permit.specs.History.{events_of_seat, taken_count, retired_count, raised_count, let_go_count, holders, in_use_count, IsLegal}
use Rattle.resil_permit.specs.Conservation.{held_in_all, retired_in_all}

-- the pass at this index among all passes, in the order in which they were made, knows this
abbrev pub IsPassAt : List View → ℕ → View → Type 0
IsPassAt views index v = get_elem? views index ≡ some v

-- the permit history is the longest that any pass has seen, and what every pass has seen is a prefix of it
pub record IsHistory (history : List PermitEvent) (views : List View) : Type 0 where
  pub index : ℕ
  pub pass : View
  pub there : IsPassAt views index pass
  pub whole : pass.seen ≡ history
  pub prefixes : (index : ℕ) (v : View) → IsPassAt views index v → IsPrefix v.seen history

-- a pass has a number from the end of its split until it is joined away
abbrev pub HasNumber : Phase → Type 0
HasNumber Splitting = ⊥
HasNumber Joined = ⊥
HasNumber _ = Unit {0}

-- each event of this number in the history is in what the pass of the number has seen. A pass whose split has not ended has had no event, and a pass
-- that was joined away held nothing and had no retired permit
abbrev pub HasSeenItsEvents : List PermitEvent → ℕ → View → Phase → Type 0
HasSeenItsEvents history number v Splitting = events_of_seat number history ≡ []
HasSeenItsEvents history number v Joined = (taken_count number history ≡ let_go_count number history) × (retired_count number history ≡ raised_count number history)
HasSeenItsEvents history number v _ = events_of_seat number v.seen ≡ events_of_seat number history

-- all passes with a number have different numbers
abbrev pub AreNumbersApart : List View → Type 0
AreNumbersApart views =
    (index other : ℕ) (v w : View) → IsPassAt views index v → IsPassAt views other w → index ≢ other → HasNumber v.phase → HasNumber w.phase → v.number ≢ w.number

-- What holds between any two steps: the history is legal; a pass's number is its index, so all numbers differ; each pass has seen its own events, and
-- there are no others; there is one word, which is the permits in use less the holders; a pass between load and exchange keeps the number that it
-- loaded, which is not 0 and was then the permits in use less the holders; and the word and what all passes hold or have retired, dropped ones too,
-- add up to max, so no more than max are held
pub record HoldsBetweenSteps (max : ℕ) (words : List ℕ) (views : List View) : Type 0 where
  pub history : List PermitEvent
  pub legal : IsLegal max history
  pub longest : IsHistory history views
  pub numbered : (index : ℕ) (v : View) → IsPassAt views index v → HasNumber v.phase → v.number ≡ index
  pub apart : AreNumbersApart views
  pub own : (number : ℕ) (v : View) → IsPassAt views number v → HasSeenItsEvents history number v v.phase
  pub no_others : (number : ℕ) → length views ≤ number → events_of_seat number history ≡ []
  pub one_word : length words ≡ 1
  pub word : slice_index words 0 + length (holders history) ≡ in_use_count max history
  pub loaded : (index : ℕ) (v : View) (n : ℕ) → IsPassAt views index v → v.phase ≡ Loaded n → (0 < n) × (n + length (holders v.seen) ≡ in_use_count max v.seen)
  pub adds_up : slice_index words 0 + held_in_all views + retired_in_all views ≡ max
  pub most : held_in_all views ≤ max
