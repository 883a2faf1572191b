-- What one turn does: from taking the lock to releasing it.
use Rattle.std.specs.Prelude.{◌≡◌, ◌≢◌, ◌≤◌, ◌⊎◌, ◌+◌, ℕ, ◌++◌, ◌∷◌, List, [], Option, Some, None, map}
use Rattle.resil_lock.specs.declared.protocol.Phase.TheVariants.{Idle}
use Rattle.resil_pool.specs.Words.{TableId, PlanView, Sizes, IsAllowed, Id, MachineView, next_started, Event, Submit, Take, Close, Resized, LoggedEvent, PoolOpening, Note}
use Rattle.resil_lock.specs.declared.log.Note.TheVariants as note
use Rattle.resil_pool.specs.Lock.LoggedEvent.{log_event, events_in, start_of, closer_number, MatchesLog, plans_in, plan_entry, SeesMore, SeesOwn}
use Rattle.resil_pool.specs.Lock.Protocol.{LockSeatState}

-- which lock, and what its pool was opened with
pub record PoolId : Type 0 where
  pub table_id : TableId
  pub limits : Sizes
  pub callers : ℕ

abbrev pub pool_id : TableId → PoolOpening → PoolId
pool_id table opening = record { table_id = table; limits = opening.limits; callers = opening.callers }

-- a seat between two turns
pub record IsResting (me : LockSeatState) : Type 0 where
  pub idle : me.0.phase ≡ Idle
  pub no_slot : me.1 ≡ []

-- the seat of this number may write the event, in a pool with this many callers: a submission is written by the caller that it names, which is one of
-- them and never the closer; a closing by the closer alone, a resize never by the closer
abbrev pub MayWrite : ℕ → ℕ → Event → Type 0
MayWrite callers number (Submit id reply) = (id.caller ≡ number) × (number ≢ closer_number) × (number ≤ callers)
MayWrite callers number Close = number ≡ closer_number
MayWrite callers number (Resized core max) = number ≢ closer_number
MayWrite callers number _ = Unit {0}

-- one event was written, which was allowed, and which the seat may write
pub record AppendedOne (me : LockSeatState) (plan : Option PlanView) (machine : MachineView) : Type 0 where
  pub event : Event
  pub allowed : IsAllowed me.0.key.limits (events_in me.0.seen) event
  pub own : MayWrite me.0.key.callers me.0.number event
  pub home : MatchesLog me.0.key.limits (me.0.seen ++ log_event plan event ∷ []) machine

-- what a turn may leave: the machine as it had it in the slot, or with one event more
abbrev pub IsTurn : LockSeatState → Option PlanView → MachineView → Type 0
IsTurn me plan machine = MatchesLog me.0.key.limits me.0.seen machine ⊎ AppendedOne me plan machine

-- nothing was written
pub record Unchanged (old new : MachineView) : Type 0 where
  pub sized : new.limits ≡ old.limits
  pub history : new.history ≡ old.history
  pub plans : map plan_entry new.jobs ≡ map plan_entry old.jobs

-- one event was written, which was allowed, and the plan of an accepted submission is kept
pub record AppendsToMachine (plan : Option PlanView) (old : MachineView) (event : Event) (new : MachineView) : Type 0 where
  pub allowed : IsAllowed old.limits old.history event
  pub sized : new.limits ≡ old.limits
  pub history : new.history ≡ old.history ++ event ∷ []
  pub plans : map plan_entry new.jobs ≡ map plan_entry old.jobs ++ plans_in (log_event plan event ∷ [])

-- what was written is what became of the machine: one event, which was allowed, or the pick of the next job with a worker of its own
abbrev pub IsStep : Option PlanView → MachineView → Note → MachineView → Type 0
IsStep plan old (note.Event event) new = AppendsToMachine plan old event new × (new.picked ≡ old.picked)
IsStep plan old (note.Started id) new = (next_started old ≡ Some id) × (new ≡ record old { picked = old.picked + 1 })

-- the same for a turn, which wrote one entry or none
abbrev pub IsMoved : MachineView → List LoggedEvent → MachineView → Type 0
IsMoved old [] new = new ≡ old
IsMoved old (entry ∷ []) new = IsStep entry.payload.plan old entry.note new
IsMoved old (entry ∷ next ∷ entries) new = ⊥

-- a turn wrote the pick of this job, and nothing else
abbrev pub Takes : Id → List LoggedEvent → Type 0
Takes id entries = (entries ≡ start_of id ∷ []) ⊎ (entries ≡ log_event None (Take id) ∷ [])

-- it wrote this event, or nothing
abbrev pub WritesAtMost : Event → List LoggedEvent → Type 0
WritesAtMost event entries = (entries ≡ []) ⊎ (entries ≡ log_event None event ∷ [])

-- what a worker writes: no submission, no closing and no resize
abbrev pub IsWorkersEvent : Event → Type 0
IsWorkersEvent (Submit id reply) = ⊥
IsWorkersEvent Close = ⊥
IsWorkersEvent (Resized core max) = ⊥
IsWorkersEvent _ = Unit {0}

pub record AppendsWorkersEvent (old new : MachineView) : Type 0 where
  pub event : Event
  pub other : IsWorkersEvent event
  pub writes : AppendsToMachine None old event new

-- at most one event was written, and no submission, closing or resize
abbrev pub AppendsAtMostOne : MachineView → MachineView → Type 0
AppendsAtMostOne old new = Unchanged old new ⊎ AppendsWorkersEvent old new

-- a closing was written, or nothing
abbrev pub AppendsCloseAtMost : MachineView → MachineView → Type 0
AppendsCloseAtMost old new = Unchanged old new ⊎ AppendsToMachine None old Close new

-- what the closer has seen after a closing: the closing ends it, if the closer wrote one
abbrev pub SeesClosing : Sizes → List LoggedEvent → List LoggedEvent → Type 0
SeesClosing limits old new = SeesMore limits closer_number old new ⊎ SeesOwn limits closer_number old (log_event None Close) new

-- what the closer's own turns have written after a closing: as much as before, or a closing more
abbrev pub WroteCloseAtMost : List LoggedEvent → List LoggedEvent → Type 0
WroteCloseAtMost old new = (new ≡ old) ⊎ (new ≡ old ++ log_event None Close ∷ [])

-- a seat had a turn, without an event of its own
pub record TookATurn (old new : LockSeatState) : Type 0 where
  pub rest : IsResting new
  pub limits : new.0.key ≡ old.0.key
  pub seen : SeesMore old.0.key.limits old.0.number old.0.seen new.0.seen
