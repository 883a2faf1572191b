-- What holds of a lock between any two steps of any threads, over any state.
use Rattle.std.specs.Prelude.{◌≡◌, ◌⊎◌, ◌↔◌, ◌+◌, ℕ, Bool, true, false, List, [], length, slice_index, Option, Some}
use mathlib.Core.Option as m
use mathlib.Core.List.{IsPrefix}
use lib.ListN.{get_elem?}
use Rattle.resil_lock.specs.declared.protocol.View.{View}
use Rattle.resil_lock.specs.declared.protocol.Rank.{Rank}
use Rattle.resil_lock.specs.declared.protocol.Rank.TheVariants as rank
use Rattle.resil_lock.specs.Lock.{weigh, total, holds_lock, is_there, IsNumbering, AreNumbered}

module _ {K E : Type 0} where
  -- the seat at this index among all seats, in the order of their making, knows this
  abbrev pub IsSeatAt : List (View K E) → ℕ → View K E → Type 0
  IsSeatAt views index v = get_elem? views index ≡ m.some v

  -- exactly one seat holds the lock
  pub record HasOneHolder (views : List (View K E)) : Type 0 where
    pub index : ℕ
    pub seat : View K E
    pub there : IsSeatAt views index seat
    pub holds : holds_lock seat.phase ≡ true
    pub only : (other : ℕ) (v : View K E) → IsSeatAt views other v → holds_lock v.phase ≡ true → other ≡ index

  -- no seat holds the lock
  abbrev pub HasNoHolder : List (View K E) → Type 0
  HasNoHolder views = (index : ℕ) (v : View K E) → IsSeatAt views index v → ¬ (holds_lock v.phase ≡ true)

  -- the log is the longest that a seat has seen, and what every seat has seen is a prefix of it
  pub record IsLongest (log : List E) (views : List (View K E)) : Type 0 where
    pub index : ℕ
    pub seat : View K E
    pub there : IsSeatAt views index seat
    pub whole : seat.seen ≡ log
    pub prefixes : (index : ℕ) (v : View K E) → IsSeatAt views index v → IsPrefix v.seen log

  -- only the opener has the first seat, which is never joined away
  pub record HasOpener (views : List (View K E)) : Type 0 where
    pub seat : View K E
    pub first : IsSeatAt views 0 seat
    pub there : is_there seat.phase ≡ true
    pub opens : seat.rank ≡ rank.Opener
    pub only : (index : ℕ) (v : View K E) → IsSeatAt views index v → v.rank ≡ rank.Opener → index ≡ 0

module _ {S : Type 0} where
  -- this state is in the slot
  abbrev pub IsInSlot : List (m.Option (Option S)) → S → Type 0
  IsInSlot homes state = get_elem? homes 0 ≡ m.some (m.some (Some state))

  -- the state is in the slot
  abbrev pub HasState : List (m.Option (Option S)) → Type 0
  HasState homes = (state : S) × IsInSlot homes state

  -- the slot is out with a seat, whatever is in it
  abbrev pub IsSlotOut : List (m.Option (Option S)) → Type 0
  IsSlotOut homes = get_elem? homes 0 ≡ m.some m.none

-- There is one word, which is 0 or 1, and one slot. The word is 1 exactly while one seat holds the lock, and 0 exactly while none does. The state is in the
-- slot exactly while the word is 0, and the slot is out exactly while the word is 1. There is one log, for which some state stands, and the state in the slot
-- stands for it too. It is the longest log that a seat has seen, every seat has seen a prefix of it, and the holder has seen all of it. Each seat that is there
-- knows the key, and wrote what a seat of its rank may write. So did the seats that were joined away, which are gone and have left nothing. For any way to
-- count entries, the log has as many as all of these wrote together. The opener has the first seat. If all seats have numbers, each seat's number is its place,
-- and it has seen all entries that are its own.
pub record HoldsBetweenSteps {K E S : Type 0} (StandsFor : K → List E → S → Type 0) (MayWrite : Rank → List E → Type 0) (is_own : ℕ → E → Bool) (key : K) (words : List ℕ) (homes : List (m.Option (Option S))) (views : List (View K E)) : Type 0 where
  pub one_word : length words ≡ 1
  pub one_slot : length homes ≡ 1
  pub bit : (slice_index words 0 ≡ 0) ⊎ (slice_index words 0 ≡ 1)
  pub taken : (slice_index words 0 ≡ 1) ↔ HasOneHolder views
  pub free : (slice_index words 0 ≡ 0) ↔ HasNoHolder views
  pub in_slot : (slice_index words 0 ≡ 0) ↔ HasState homes
  pub out : (slice_index words 0 ≡ 1) ↔ IsSlotOut homes
  pub log : List E
  pub gone : List (View K E)
  pub stood : (state : S) × StandsFor key log state
  pub at_home : (state : S) → IsInSlot homes state → StandsFor key log state
  pub longest : IsLongest log views
  pub holder : (index : ℕ) (v : View K E) → IsSeatAt views index v → holds_lock v.phase ≡ true → v.seen ≡ log
  pub keyed : (index : ℕ) (v : View K E) → IsSeatAt views index v → is_there v.phase ≡ true → v.key ≡ key
  pub fits : (index : ℕ) (v : View K E) → IsSeatAt views index v → is_there v.phase ≡ true → MayWrite v.rank v.own
  pub spent : (index : ℕ) (v : View K E) → IsSeatAt views index v → is_there v.phase ≡ false → v.own ≡ []
  pub gone_fits : (index : ℕ) (v : View K E) → IsSeatAt gone index v → MayWrite v.rank v.own
  pub wrote : (weight : E → ℕ) → total (λ v. weigh weight v.own) views + total (λ v. weigh weight v.own) gone ≡ weigh weight log
  pub opener : HasOpener views
  pub numbers : IsNumbering MayWrite → AreNumbered is_own log views
