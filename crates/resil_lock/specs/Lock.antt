-- What holds of a lock between any two steps, and what a seat knows after a step. StandsFor says which logs a state stands for, MayWrite what a seat of a rank
-- may have written, and is_own which entries belong to the seat with a number.
use Rattle.std.specs.Prelude.{◌≡◌, ◌≢◌, ◌≤◌, ◌<◌, ◌⊎◌, ◌↔◌, ◌+◌, ℕ, Bool, true, false, List, [], ◌∷◌, ◌++◌, filter, length, slice_index, Option, Some}
use mathlib.Core.Option as m
use mathlib.Core.List.{IsPrefix}
use lib.ListN.{get_elem?}
use Rattle.atomic_table.specs.Table.{State, Me, Step, rest}
use Rattle.resil_permit.specs.Log.Seats.{IsLogOf}
use Rattle.resil_lock.specs.declared.protocol.View.{View}
use Rattle.resil_lock.specs.declared.protocol.Phase.{Phase}
use Rattle.resil_lock.specs.declared.protocol.Phase.TheVariants.{Idle, Holding, Joining, Joined}
use Rattle.resil_lock.specs.declared.protocol.Rank.{Rank}
use Rattle.resil_lock.specs.declared.protocol.Rank.TheVariants as rank

module _ {E : Type 0} where
  -- the sum of the weights of some entries
  abbrev pub weigh : (E → ℕ) → List E → ℕ
  weigh weight [] = 0
  weigh weight (entry ∷ entries) = weight entry + weigh weight entries

  -- If no seat may write more by one weight than by another, then the log without what one seat wrote has no more by it either.
  abbrev pub IsCovered : (Rank → List E → Type 0) → List E → List E → Type 0
  IsCovered MayWrite log own =
      (less more : E → ℕ) → ((who : Rank) (entries : List E) → MayWrite who entries → weigh less entries ≤ weigh more entries)
      → weigh less log + weigh more own ≤ weigh more log + weigh less own

  -- All seats have numbers: seats of the other ranks may not even have written the empty list, so there are none.
  abbrev pub IsNumbering : (Rank → List E → Type 0) → Type 0
  IsNumbering MayWrite = (who : Rank) (own : List E) → MayWrite who own → (who ≡ rank.Opener) ⊎ (who ≡ rank.Member)

  -- a seat holds the lock from the exchange that wins it to the step that releases it, even while it joins another seat away
  abbrev pub holds_lock : Phase E → Bool
  holds_lock Idle = false
  holds_lock Holding = true
  holds_lock (Joining number other) = true
  holds_lock Joined = false

  -- a seat is there until it is joined away
  abbrev pub is_there : Phase E → Bool
  is_there Idle = true
  is_there Holding = true
  is_there (Joining number other) = true
  is_there Joined = false

  -- the holder has seen all that the seat with this number had seen, and no more entries that belong to that seat
  pub record HasAllOf (MayWrite : Rank → List E → Type 0) (is_own : ℕ → E → Bool) (number : ℕ) (other seen : List E) : Type 0 where
    pub begins : IsPrefix other seen
    pub same_own : IsNumbering MayWrite → filter (is_own number) seen ≡ filter (is_own number) other

  abbrev pub HasAllOfJoined : (Rank → List E → Type 0) → (ℕ → E → Bool) → Phase E → List E → Type 0
  HasAllOfJoined MayWrite is_own (Joining number other) seen = HasAllOf MayWrite is_own number other seen
  HasAllOfJoined MayWrite is_own Idle seen = Unit {0}
  HasAllOfJoined MayWrite is_own Holding seen = Unit {0}
  HasAllOfJoined MayWrite is_own Joined seen = Unit {0}

module _ {K E : Type 0} where
  abbrev pub view_of : K → Rank → ℕ → ℕ → ℕ → Phase E → List E → List E → View K E
  view_of key who number made turns phase seen own = record { key = key; rank = who; number = number; made = made; turns = turns; phase = phase; seen = seen; own = own }

  -- the opener's seat, when the lock is made
  abbrev pub first_view : K → View K E
  first_view key = view_of key rank.Opener 0 1 0 Idle [] []

  -- a seat of the same lock that has seen nothing and written nothing
  abbrev pub visitor_view : View K E → View K E
  visitor_view v = view_of v.key rank.Visitor 0 0 0 Idle [] []

  abbrev pub worker_view : View K E → View K E
  worker_view v = view_of v.key rank.Worker 0 0 0 Idle [] []

  -- a seat with a number: how many seats there were before it
  abbrev pub member_view : View K E → View K E
  member_view v = view_of v.key rank.Member v.made 0 0 Idle [] []

  -- the opener, which has made one more seat
  abbrev pub made_one : View K E → View K E
  made_one v = view_of v.key v.rank v.number (v.made + 1) v.turns v.phase v.seen v.own

  -- a seat that has taken the lock, and has seen this
  abbrev pub holder_view : View K E → List E → View K E
  holder_view v seen = view_of v.key v.rank v.number v.made v.turns Holding seen v.own

  -- a seat that has released the lock, after a turn that wrote this: it has had one more turn
  abbrev pub left_view : View K E → List E → View K E
  left_view v new = view_of v.key v.rank v.number v.made (v.turns + 1) Idle (v.seen ++ new) (v.own ++ new)

  -- a holder that joins another seat away
  abbrev pub joining_view : View K E → View K E → View K E
  joining_view v u = view_of v.key v.rank v.number v.made v.turns (Joining u.number u.seen) v.seen v.own

  -- what a seat that was joined away leaves
  abbrev pub joined_view : K → View K E
  joined_view key = view_of key rank.Member 0 0 0 Joined [] []

  -- the sum of one number over all seats
  abbrev pub total : (View K E → ℕ) → List (View K E) → ℕ
  total number [] = 0
  total number (v ∷ views) = number v + total number views

  module _ (MayWrite : Rank → List E → Type 0) (is_own : ℕ → E → Bool) where
    -- A seat at its place among all seats. It has seen a prefix of the log. Only the opener has the first place, and is never joined away. A seat that is there
    -- knows the key and wrote what it may write; one that isn't there has left nothing. Only the holder holds the lock, while the word is 1. The holder has
    -- seen the whole log, and all that a seat has which it joins away.
    pub record IsSeat (key : K) (word holder : ℕ) (log : List E) (place : ℕ) (v : View K E) : Type 0 where
      pub begins : IsPrefix v.seen log
      pub opener : v.rank ≡ rank.Opener → (place ≡ 0) × (is_there v.phase ≡ true)
      pub first : place ≡ 0 → v.rank ≡ rank.Opener
      pub keyed : is_there v.phase ≡ true → v.key ≡ key
      pub fits : is_there v.phase ≡ true → MayWrite v.rank v.own
      pub spent : is_there v.phase ≡ false → v.own ≡ []
      pub holds : (holds_lock v.phase ≡ true) ↔ ((place ≡ holder) × (word ≡ 1))
      pub whole : holds_lock v.phase ≡ true → v.seen ≡ log
      pub joins : (number : ℕ) (other : List E) → v.phase ≡ Joining number other → HasAllOf MayWrite is_own number other log

    -- The seat's number is its place, and the first seat knows how many there are. A seat has seen all entries of the log that are its own.
    pub record IsNumbered (count : ℕ) (log : List E) (place : ℕ) (v : View K E) : Type 0 where
      pub numbered : is_there v.phase ≡ true → v.number ≡ place
      pub counted : place ≡ 0 → v.made ≡ count
      pub all_own : is_there v.phase ≡ true → filter (is_own place) v.seen ≡ filter (is_own place) log

    -- a seat at its place, and what is known about it if all seats have numbers
    pub record FitsPlace (key : K) (word holder count : ℕ) (log : List E) (place : ℕ) (v : View K E) : Type 0 where
      pub seat : IsSeat key word holder log place v
      pub numbers : IsNumbering MayWrite → IsNumbered count log place v

    -- each seat fits its place, and some seat has seen the whole log
    abbrev pub AreSeats : K → ℕ → ℕ → ℕ → List E → List (View K E) → Type 0
    AreSeats key word holder count log views = IsLogOf (λ v. v.seen) (λ _. Unit {0}) (λ _ _. false) (FitsPlace key word holder count log) log views

  -- Each seat's number is its place among all seats, and the first seat knows how many there are. Each seat has seen all entries of the log that are its own,
  -- and no entry belongs to a seat that isn't there.
  pub record AreNumbered (is_own : ℕ → E → Bool) (log : List E) (views : List (View K E)) : Type 0 where
    pub numbered : (i : ℕ) (v : View K E) → get_elem? views i ≡ m.some v → is_there v.phase ≡ true → v.number ≡ i
    pub counted : (v : View K E) → get_elem? views 0 ≡ m.some v → v.made ≡ length views
    pub all_own : (i : ℕ) (v : View K E) → get_elem? views i ≡ m.some v → is_there v.phase ≡ true → filter (is_own i) v.seen ≡ filter (is_own i) log
    pub no_others : (i : ℕ) → length views ≤ i → filter (is_own i) log ≡ []

module _ {S K E : Type 0} where
  abbrev pub AfterComing : Step S → Me S (View K E) → ℕ → Me S (View K E) → Type 0
  AfterComing step before found after = after ≡ (visitor_view before.0, before.1)

module _ {K E S : Type 0} where
  -- the state is in the slot, and stands for the log
  pub record IsAtHome (StandsFor : K → List E → S → Type 0) (key : K) (log : List E) (homes : List (m.Option (Option S))) : Type 0 where
    pub state : S
    pub there : get_elem? homes 0 ≡ m.some (m.some (Some state))
    pub stands : StandsFor key log state

  -- There is one log, for which some state stands. The word is 0 or 1. While it is 0, the state is in the slot and stands for the log. While it is 1, the slot
  -- is out, and the seat at the holder's place holds the lock. Each seat fits its place. The log consists of exactly what the seats wrote, including those that
  -- were joined away and are gone. If all seats have numbers, no entry belongs to a seat that isn't there.
  pub record LockInvariant (StandsFor : K → List E → S → Type 0) (MayWrite : Rank → List E → Type 0) (is_own : ℕ → E → Bool) (key : K) (words : List ℕ) (homes : List (m.Option (Option S))) (views : List (View K E)) : Type 0 where
    pub log : List E
    pub gone : List (View K E)
    pub holder : ℕ
    pub count : ℕ
    pub one_word : length words ≡ 1
    pub one_slot : length homes ≡ 1
    pub bit : (slice_index words 0 ≡ 0) ⊎ (slice_index words 0 ≡ 1)
    pub at_home : slice_index words 0 ≡ 0 → IsAtHome StandsFor key log homes
    pub away : slice_index words 0 ≡ 1 → get_elem? homes 0 ≡ m.some m.none
    pub held : slice_index words 0 ≡ 1 → holder < length views
    pub stood : (state : S) × StandsFor key log state
    pub seats : AreSeats MayWrite is_own key (slice_index words 0) holder count log views
    pub wrote : (weight : E → ℕ) → total (λ v. weigh weight v.own) views + total (λ v. weigh weight v.own) gone ≡ weigh weight log
    pub gone_fits : (i : ℕ) (v : View K E) → get_elem? gone i ≡ m.some v → MayWrite v.rank v.own
    pub counted : IsNumbering MayWrite → (count ≡ length views) × ((i : ℕ) → length views ≤ i → filter (is_own i) log ≡ [])

  abbrev pub IsLocked : (K → List E → S → Type 0) → (Rank → List E → Type 0) → (ℕ → E → Bool) → K → State (Option S) (View K E) → Type 0
  IsLocked StandsFor MayWrite is_own key s = LockInvariant StandsFor MayWrite is_own key s.words s.homes s.views

  -- The lock was taken. The seat has seen the whole log, which begins with what it had seen and has no more entries that are its own, and it has the state,
  -- which stands for the log.
  pub record TookLock (StandsFor : K → List E → S → Type 0) (MayWrite : Rank → List E → Type 0) (is_own : ℕ → E → Bool) (before after : Me (Option S) (View K E)) : Type 0 where
    pub view : after.0 ≡ holder_view before.0 after.0.seen
    pub begins : IsPrefix before.0.seen after.0.seen
    pub same_own : IsNumbering MayWrite → filter (is_own before.0.number) after.0.seen ≡ filter (is_own before.0.number) before.0.seen
    pub fits : MayWrite after.0.rank after.0.own
    pub covered : IsCovered MayWrite after.0.seen after.0.own
    pub state : S
    pub home : StandsFor after.0.key after.0.seen state
    pub slot : after.1 ≡ (0, Some state) ∷ before.1

  pub record AfterTake (StandsFor : K → List E → S → Type 0) (MayWrite : Rank → List E → Type 0) (is_own : ℕ → E → Bool) (step : Step (Option S)) (before : Me (Option S) (View K E)) (found : ℕ) (after : Me (Option S) (View K E)) : Type 0 where
    pub took : found ≡ 0 → TookLock StandsFor MayWrite is_own before after
    pub lost : found ≢ 0 → after ≡ before

  -- The state is in the slot again, and the seat has seen what its turn wrote.
  pub record AfterRelease (written : S → List E) (step : Step (Option S)) (before : Me (Option S) (View K E)) (stored : ℕ) (after : Me (Option S) (View K E)) : Type 0 where
    pub slot : after.1 ≡ rest before.1
    pub seen : (state : S) → before.1 ≡ (0, Some state) ∷ rest before.1 → after.0 ≡ left_view before.0 (written state)

  -- The load that ends a join: the seat holds the lock as before.
  pub record AfterJoin (MayWrite : Rank → List E → Type 0) (is_own : ℕ → E → Bool) (step : Step (Option S)) (before : Me (Option S) (View K E)) (found : ℕ) (after : Me (Option S) (View K E)) : Type 0 where
    pub slot : after.1 ≡ before.1
    pub view : after.0 ≡ holder_view before.0 before.0.seen
    pub joined : HasAllOfJoined MayWrite is_own before.0.phase before.0.seen
