-- The owner of a seat and what it knows: the words in which contracts speak of a pool, and of what submits, works and closes there.
use Rattle.std.specs.Prelude.{◌≡◌, ◌+◌}
use Rattle.resil_executor.specs.Words.{Seat, Sizes, View, first_view, visitor_view, made_one, Opening}
use Rattle.resil_executor.specs.Log.{Entry}
use Rattle.resil_executor.specs.declared.executor.Executor.{Executor}
use Rattle.resil_executor.specs.Turn.{HasWorkedSinceHiredBy, SeesOver}

module _ {W H : _} where
  -- the sizes at the opening
  abbrev pub limits_of : Executor W H → Sizes
  limits_of pool = pool.lock.table.shared.key.limits

  -- the record of its history as it was before the first event
  abbrev pub blank_of : Executor W H → H
  blank_of pool = pool.lock.table.shared.key.blank.value

  -- a visitor that has seen nothing yet
  abbrev pub new_visitor : Executor W H → View (Opening H) (Entry W)
  new_visitor pool = visitor_view (first_view pool.lock.table.shared.key)

  -- the seat is at the lock of this pool
  abbrev pub IsAt : {S V : Type 0} → Executor W H → Seat S V → Type 0
  IsAt pool seat = seat.table_id ≡ pool.lock.table.shared.table_id

  -- the seat is of this pool, and knows how it was opened
  abbrev pub IsOf : {S : Type 0} → Executor W H → Seat S (View (Opening H) (Entry W)) → Type 0
  IsOf pool seat = IsAt pool seat × (seat.me.0.key ≡ pool.lock.table.shared.key)

  -- a worker's seat of this pool, which has left it: it has seen the end, and ended only jobs that it picked and whose work was run in this way
  pub record HasLeft {S : Type 0} (pool : Executor W H) (Was : W → Type 0) (seat : Seat S (View (Opening H) (Entry W))) : Type 0 where
    pub mine : IsOf pool seat
    pub worked : HasWorkedSinceHiredBy (limits_of pool) Was seat.me.0
    pub over : SeesOver (limits_of pool) seat.me.0

-- what a seat has seen of the log, and what it wrote
abbrev pub known_to : {S V : Type 0} → Seat S V → V
known_to seat = seat.me.0

-- a seat of the same pool, which knows the same, except that it has made one more seat
pub record HasHired {S K E : Type 0} (before after : Seat S (View K E)) : Type 0 where
  pub source : after.table_id ≡ before.table_id
  pub me : after.me ≡ (made_one before.me.0, before.me.1)
  pub key : after.me.0.key ≡ before.me.0.key
  pub own : after.me.0.own ≡ before.me.0.own
  pub made : after.me.0.made ≡ before.me.0.made + 1
