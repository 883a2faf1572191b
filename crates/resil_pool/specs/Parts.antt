-- What contracts see of the parts of a pool: its closer, its callers, its workers and their ends.
use Rattle.std.specs.Prelude.{◌≡◌, ◌≢◌, ◌≤◌, ℕ, List, [], Option, Some, None, map}
use Rattle.std.specs.List.{range_with_len}
use Rattle.resil_pool.specs.Words.{Ticket, TableId, PlanView, RunView, IsLegal, Row, Id, Event, Submit, LoggedEvent, Receipt}
use Rattle.resil_pool.specs.Lock.{log_event, events_in, closer_number, own_in, runs_in, LockSeatState, PoolId, pool_id, IsResting}
use Rattle.resil_lock.specs.declared.protocol.Rank.TheVariants.{Member}

-- a closer, a worker: which pool it belongs to, what it has seen, what its own turns wrote, and the runs with which it has ended jobs
pub record SeatView : Type 0 where
  pub source : PoolId
  pub seen : List LoggedEvent
  pub wrote : List LoggedEvent
  pub runs : List Row

-- the pool that a seat belongs to
abbrev pub source_of : TableId → LockSeatState → PoolId
source_of table me = pool_id table me.0.key

-- what contracts see of the seat of a closer or a worker
abbrev pub seat_view : TableId → LockSeatState → SeatView
seat_view table me = record { source = source_of table me; seen = me.0.seen; wrote = me.0.own; runs = runs_in me.0.own }

-- a caller: its number, its receipts, what it has seen, and what its own turns wrote
pub record CallerView : Type 0 where
  pub source : PoolId
  pub number : ℕ
  pub receipts : List Receipt
  pub seen : List LoggedEvent
  pub wrote : List LoggedEvent

abbrev pub caller_view : TableId → LockSeatState → ℕ → List Receipt → CallerView
caller_view table me number receipts = record { source = source_of table me; number = number; receipts = receipts; seen = me.0.seen; wrote = me.0.own }

-- there is no run
abbrev pub IsNoRun : Option RunView → Type 0
IsNoRun None = Unit {0}
IsNoRun (Some run) = ⊥

-- a worker's end: what it has seen, what its own turns wrote, the runs with which it has ended jobs, and the first run that was refused, if any;
-- there is none
pub record EndView : Type 0 where
  pub source : PoolId
  pub seen : List LoggedEvent
  pub wrote : List LoggedEvent
  pub runs : List Row
  pub refused : Option RunView
  pub none : IsNoRun refused

-- what contracts see of the seat of a worker that has ended
abbrev pub end_of : SeatView → EndView
end_of s = record { source = s.source; seen = s.seen; wrote = s.wrote; runs = s.runs; refused = None; none = tt }

abbrev pub submission_id : ℕ → ℕ → Id
submission_id caller number = record { caller = caller; number = number }

-- the event of a caller's submission with this receipt
abbrev pub submit_of : ℕ → Receipt → Event
submit_of caller receipt = Submit (submission_id caller receipt.number) receipt.reply

-- a caller's submission with this receipt, with the plan of its job
abbrev pub submission_of : ℕ → Receipt → LoggedEvent
submission_of caller receipt = log_event (Some receipt.plan) (submit_of caller receipt)

abbrev pub receipt_of : Ticket → PlanView → Receipt
receipt_of ticket plan = record { number = ticket.number; reply = ticket.reply; plan = plan }

-- what holds of a caller between two calls: its own submissions in what it has seen, with their plans, are its receipts
pub record IsCaller (me : LockSeatState) (number : ℕ) (receipts : List Receipt) : Type 0 where
  pub rest : IsResting me
  pub member : me.0.rank ≡ Member
  pub numbered : me.0.number ≡ number
  pub not_closer : number ≢ closer_number
  pub within : number ≤ me.0.key.callers
  pub legal : IsLegal me.0.key.limits (events_in me.0.seen)
  pub own : own_in number me.0.seen ≡ map (submission_of number) receipts

-- what holds of a closer or a worker between two calls
pub record IsWitness (me : LockSeatState) : Type 0 where
  pub rest : IsResting me
  pub legal : IsLegal me.0.key.limits (events_in me.0.seen)

-- the closer has the first seat
pub record IsCloser (me : LockSeatState) : Type 0 where
  pub rest : IsResting me
  pub first : me.0.number ≡ closer_number
  pub legal : IsLegal me.0.key.limits (events_in me.0.seen)

abbrev pub new_caller : PoolId → ℕ → CallerView
new_caller source number = record { source = source; number = number; receipts = []; seen = []; wrote = [] }

-- this many callers, numbered from 1 and without receipts
abbrev pub new_callers : PoolId → ℕ → List CallerView
new_callers source count = map (new_caller source) (range_with_len 1 count)

abbrev pub new_worker : PoolId → SeatView
new_worker source = record { source = source; seen = []; wrote = []; runs = [] }

-- the same caller of the same pool
pub record IsSameCaller (old new : CallerView) : Type 0 where
  pub source : new.source ≡ old.source
  pub number : new.number ≡ old.number
