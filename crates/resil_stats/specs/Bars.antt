-- The bars of a history: one for each job that a worker began to run, from its start to its finish, each in the first row that is free.
use Rattle.std.specs.Prelude.{ℕ, ◌≡◌, ◌≤◌, ◌<◌, ◌+◌, Bool, false, List, Option, Some, None, map, nat_lt, slice_get}
use Rattle.std.specs.List.{enumerate_from, filter_map, position_or_len}
use Rattle.std.specs.Option.{option_map}
use Rattle.resil_rule.specs.History.{is_same_id}
use Rattle.resil_rule.specs.declared.event.Id.{Id}
use Rattle.resil_jdk.specs.declared.event.JdkReply.TheVariants as reply
use Rattle.resil_jdk.specs.declared.event.JdkEvent.{JdkEvent}
use Rattle.resil_jdk.specs.declared.event.JdkEvent.TheVariants.{Submit, Take, Finish}
use Rattle.resil_stats.specs.declared.bars.Bar.{Bar}
use Rattle.resil_stats.specs.declared.bars.Start.{Start}
use Rattle.resil_stats.specs.declared.bars.Start.TheVariants.{Core, Extra, Queued, Handed}

-- ---- Events and their places.

-- the events of a history with their places, from 1
abbrev pub placed : {E : Type 0} → List E → List (ℕ × E)
placed history = enumerate_from 1 history

-- the job that starts at an event, and how: with a new worker, taken from the queue, or handed to an idle worker; no job starts if it is
-- refused, put into the queue or removed from it
abbrev pub start_at : JdkEvent → Option (Id × Start)
start_at (Submit id reply.Core) = Some (id, Core)
start_at (Submit id reply.Extra) = Some (id, Extra)
start_at (Submit id reply.Handed) = Some (id, Handed)
start_at (Take id) = Some (id, Queued)
start_at _ = None

-- a job, how it started, and the place of that
pub record Started : Type 0 where
  pub id : Id
  pub start : Start
  pub from : ℕ

abbrev pub started_at : ℕ × JdkEvent → Option Started
started_at placed_event = option_map (λ job. record { id = job.0; start = job.1; from = placed_event.0 }) (start_at placed_event.1)

-- the jobs of a history that started, in that order
abbrev pub starts : List JdkEvent → List Started
starts history = filter_map started_at (placed history)

abbrev pub is_finish_of : Id → JdkEvent → Bool
is_finish_of id (Finish other) = is_same_id id other
is_finish_of id _ = false

-- the place of a job's finish in a history, or the place after the last event if it isn't finished
abbrev pub finish_place : List JdkEvent → Id → ℕ
finish_place history id = position_or_len (is_finish_of id) history + 1

-- ---- The bars.

-- what a bar says of its job's start
abbrev pub started_of : Bar → Started
started_of bar = record { id = bar.id; start = bar.start; from = bar.from }

-- a bar before one of the bars is in a row, and ends after a place
abbrev pub IsTaken : List Bar → ℕ → ℕ → ℕ → Type 0
IsTaken bars index row place = (i : ℕ) × (other : Bar) × (i < index) × (slice_get bars i ≡ Some other) × (other.row ≡ row) × (place < other.to)

-- The bars of the jobs that started in the first events of a history.
pub record AreBarsOfFirst (begun history : List JdkEvent) (bars : List Bar) : Type 0 where
  -- one for each job that started, in their order, and no other
  pub started : map started_of bars ≡ starts begun
  -- each to its job's finish
  pub ends : (i : ℕ) (bar : Bar) → slice_get bars i ≡ Some bar → bar.to ≡ finish_place history bar.id
  -- in a row that is free: each bar before it in that row ends before it begins
  pub apart : (i j : ℕ) (one other : Bar) → i < j → slice_get bars i ≡ Some one → slice_get bars j ≡ Some other → one.row ≡ other.row → one.to < other.from
  -- the first such row: each row before it, from 1, is taken
  pub first : (i row : ℕ) (bar : Bar) → slice_get bars i ≡ Some bar → 1 ≤ row → row < bar.row → IsTaken bars i row bar.from
  pub rows : (i : ℕ) (bar : Bar) → slice_get bars i ≡ Some bar → 1 ≤ bar.row

-- the bars of a history
abbrev pub AreBarsOf : List JdkEvent → List Bar → Type 0
AreBarsOf history bars = AreBarsOfFirst history history bars

-- ---- What is kept while a history is drawn.

-- the first row whose last bar ends before a place, counted from 0: a new one if all end later
abbrev pub free_row : ℕ → List ℕ → ℕ
free_row place ends = position_or_len (λ end. nat_lt end place) ends

-- One of the rows ends there now, and each other row where it did.
pub record IsPut (old new : List ℕ) (row end : ℕ) : Type 0 where
  pub here : slice_get new row ≡ Some end
  pub others : (other : ℕ) → (other ≡ row → ⊥) → slice_get new other ≡ slice_get old other

-- The bars so far, and where the last one of each row ends.
pub record IsDrawn (begun history : List JdkEvent) (bars : List Bar) (ends : List ℕ) : Type 0 where
  pub are : AreBarsOfFirst begun history bars
  pub shown : (i : ℕ) (bar : Bar) → slice_get bars i ≡ Some bar → (row : ℕ) × (end : ℕ) × (bar.row ≡ row + 1) × (slice_get ends row ≡ Some end) × (bar.to ≤ end)
  pub held : (row end : ℕ) → slice_get ends row ≡ Some end → (i : ℕ) × (bar : Bar) × (slice_get bars i ≡ Some bar) × (bar.row ≡ row + 1) × (bar.to ≡ end)
