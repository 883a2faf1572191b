-- What the state under the lock says of itself: which logs it represents, which seats there are, what a turn wrote, and which jobs a seat's own turns
-- picked and ended.
use Rattle.std.specs.Prelude.{◌≡◌, ◌≤◌, ◌⊎◌, ◌+◌, ℕ, true, List, [], ◌∷◌, Option, Some, None, length, option_map, take}
use Rattle.atomic_table.specs.Table.{Me}
use Rattle.resil_lock.specs.declared.protocol.View as lock
use Rattle.resil_lock.specs.declared.protocol.Rank.{Rank}
use Rattle.resil_lock.specs.declared.protocol.Rank.TheVariants as rank
use Rattle.resil_lock.specs.declared.protocol.Phase.TheVariants.{Idle}
use Rattle.resil_lock.specs.Lock.{view_of}
use Rattle.resil_rule.specs.History.{is_closed}
use Rattle.resil_admission.specs.MachineView.{HasOneToPick}
use Rattle.resil_pool.specs.Words.{started, taken, finished, times, Id, MachineView, Accepted, LoggedEvent, Note, PoolOpening, PoolState, Written}
use Rattle.resil_pool.specs.Lock.LoggedEvent.{AllNameCallers, IsLegalLog, MatchesLog, events_in, picked_in, ended_in, IsBalanced, logged}

-- what a seat knows of the history
abbrev pub View : Type 0
View = lock.View PoolOpening LoggedEvent

-- what the closer's seat knows of a new pool in which this many seats are made
abbrev pub closer_view : PoolOpening → ℕ → View
closer_view opening made = view_of opening rank.Opener 0 made 0 Idle [] []

-- what a seat knows, with the slot if it holds it
abbrev pub LockSeatState : Type 0
LockSeatState = Me (Option PoolState) View

-- the jobs with a worker of their own that were picked
abbrev pub starts_of : MachineView → List Id
starts_of machine = take machine.picked (started machine.history)

-- The machine represents its legal history, with the plans of its jobs; each submission there names a caller of the pool; and the jobs that were
-- picked are those of the log.
pub record IsMachineOf (opening : PoolOpening) (log : List LoggedEvent) (machine : MachineView) : Type 0 where
  pub home : MatchesLog opening.limits log machine
  pub legal : IsLegalLog opening.limits log
  pub names : AllNameCallers opening.callers (events_in log)
  pub picks : (id : Id) → times id (picked_in log) ≡ times id (starts_of machine) + times id (taken machine.history)
  pub within : machine.picked ≤ length (started machine.history)

abbrev pub StandsFor : PoolOpening → List LoggedEvent → PoolState → Type 0
StandsFor opening log state = IsMachineOf opening log state.machine

-- all seats have numbers: all are split from the closer's
abbrev pub HasNumber : Rank → Type 0
HasNumber who = (who ≡ rank.Opener) ⊎ (who ≡ rank.Member)

-- the seat's owner has a number, and it has ended no job that it hadn't picked
pub record MayHaveWritten (who : Rank) (own : List LoggedEvent) : Type 0 where
  pub numbered : HasNumber who
  pub balanced : IsBalanced own

-- the note of a turn that was no submission
abbrev pub plain : Note → Written
plain written = record { note = written; plan = None }

-- what the last turn wrote, by what it left
abbrev pub entries_of : List Accepted → Option Written → List LoggedEvent
entries_of jobs None = []
entries_of jobs (Some written) = logged (option_map (λ plan. plan.value) written.plan) jobs written.note ∷ []

abbrev pub told : PoolState → List LoggedEvent
told state = entries_of state.machine.jobs state.last

-- a worker has something to do: the machine is closed, or has a job to pick
abbrev pub HasWork : PoolState → Type 0
HasWork state = (is_closed state.machine.history ≡ true) ⊎ HasOneToPick state.machine

-- a seat that wrote this has picked this job and not ended it: with one more end of it, no job was ended more often than it was picked
abbrev pub IsDue : Id → List LoggedEvent → Type 0
IsDue id own = (x : Id) → times x (ended_in own) + times x (id ∷ []) ≤ times x (picked_in own)

-- the jobs that it picked are those that it ended
abbrev pub IsSettled : List LoggedEvent → Type 0
IsSettled own = (id : Id) → times id (ended_in own) ≡ times id (picked_in own)

-- its turns have picked these jobs in addition, and ended these
pub record Tallies (old : List LoggedEvent) (picks ends : List Id) (new : List LoggedEvent) : Type 0 where
  pub picked : (id : Id) → times id (picked_in new) ≡ times id (picked_in old) + times id picks
  pub ended : (id : Id) → times id (ended_in new) ≡ times id (ended_in old) + times id ends

-- no job was finished more often than it was picked
abbrev pub EndsOnlyPicked : MachineView → Type 0
EndsOnlyPicked machine = (id : Id) → times id (finished machine.history) ≤ times id (starts_of machine) + times id (taken machine.history)
