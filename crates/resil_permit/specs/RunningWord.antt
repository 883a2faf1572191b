-- The running word next to the word machine: what threads do to the word and to their passes is a step of the machine, or leaves the machine as it
-- is.
use Rattle.std.specs.Prelude.{◌≡◌, ℕ, ◌+◌, ◌%◌, ◌^◌, ◌<◌, ◌≤◌, ◌==◌, List, [], ◌∷◌, ◌++◌, slice_index, slice_set}
use mathlib.Core.Option.{Option, none, some}
use lib.ListN.{get_elem?}
use prog.Atomic.{either}
use Rattle.atomic_table.specs.Table as table
use Rattle.atomic_table.specs.Table.{State, step, keeps, stepped, opening}
use Rattle.resil_permit.specs.declared.event.PermitEvent.{PermitEvent}
use Rattle.resil_permit.specs.declared.protocol.Phase.{Phase}
use Rattle.resil_permit.specs.declared.protocol.Phase.TheVariants as phase
use Rattle.resil_permit.specs.declared.protocol.View.{View}
use Rattle.resil_permit.specs.declared.step.Step.{Step}
use Rattle.resil_permit.specs.declared.step.Step.TheVariants.{Load, Exchange, Add, Retire, Raise}
use Rattle.resil_permit.specs.declared.word_machine.CallerState.{CallerState}
use Rattle.resil_permit.specs.declared.word_machine.CallerState.TheVariants.{Idle, Loaded}
use Rattle.resil_permit.specs.History.{taken_count, retired_count, raised_count, let_go_count}
use Rattle.resil_permit.specs.WordMachine.{Machine, start, CanMakeAll, after_steps}
use Rattle.resil_permit.specs.Steps.{PassSeat}
use Rattle.resil_permit.specs.BetweenSteps.{IsPassAt, IsHistory}

-- the word and the passes
abbrev pub Table : Type 0
Table = State (Unit {0}) View

-- a pass is a caller of the machine: between load and exchange it has loaded a number, otherwise it is idle
abbrev pub state_of : Phase → CallerState
state_of (phase.Loaded n) = Loaded n
state_of _ = Idle

-- a caller whose pass doesn't exist yet is idle
abbrev pub state_at : Option View → CallerState
state_at none = Idle
state_at (some v) = state_of v.phase

-- the machine that the table represents if this is its history. A caller's number is the index of its pass
abbrev pub machine_of : List PermitEvent → Table → Machine
machine_of history s = record { word = slice_index s.words 0; callers = λ index. state_at (get_elem? s.views index); events = history }

-- the table keeps the rule, and represents the machine after these steps, which its callers can make from the start
pub record StandsAfter (holds : ℕ → Table → Type 0) (max : ℕ) (s : Table) (steps : List Step) : Type 0 where
  pub rule : holds max s
  pub history : List PermitEvent
  pub longest : IsHistory history s.views
  pub can_make : CanMakeAll (start max) steps
  pub machine : machine_of history s ≡ after_steps (start max) steps

-- The pass `me` at this index makes a step on the word, which becomes `left` of what it was, and the step shows `Tells` of the number found
-- and of the pass after it. Whatever steps the table represents, there is a pass after the step for which that is true, and with it the
-- table represents `then` of these steps
abbrev pub IsMove : (ℕ → Table → Type 0) → ℕ → ℕ → PassSeat → (ℕ → ℕ) → (ℕ → PassSeat → Type 0) → (List Step → List Step) → Type 0
IsMove holds max index me left Tells then =
    (s : Table) (steps : List Step) → StandsAfter holds max s steps → IsPassAt s.views index me.0
    → (w : View) × Tells (slice_index s.words 0) (w, me.1) × StandsAfter holds max (stepped s 0 (left (slice_index s.words 0)) index me.1 w keeps) (then steps)

-- the step on the word is this step of the machine
abbrev pub IsMachineStep : (ℕ → Table → Type 0) → ℕ → ℕ → PassSeat → (ℕ → ℕ) → (ℕ → PassSeat → Type 0) → Step → Type 0
IsMachineStep holds max index me left Tells step = IsMove holds max index me left Tells (λ steps. steps ++ step ∷ [])

-- the step only reads the word, and is none of the machine's
abbrev pub IsNoMachineStep : (ℕ → Table → Type 0) → ℕ → ℕ → PassSeat → (ℕ → PassSeat → Type 0) → Type 0
IsNoMachineStep holds max index me Tells = IsMove holds max index me (λ n. n) Tells (λ steps. steps)

-- a pass between two calls; a new one, between the two loads of its split; and one between the two loads of a join
abbrev pub IsIdle : Phase → Type 0
IsIdle p = p ≡ phase.Idle

abbrev pub AwaitsNumber : Phase → Type 0
AwaitsNumber p = p ≡ phase.Splitting

abbrev pub AwaitsEndOfJoin : Phase → Type 0
AwaitsEndOfJoin p = (number : ℕ) × (mine : List PermitEvent) × (other : List PermitEvent) × (p ≡ phase.Joining number mine other)

-- what a play says of the step, of the pass before it, of the number found and of the pass after it
abbrev pub Telling : Type 1
Telling = table.Step (Unit {0}) → PassSeat → ℕ → PassSeat → Type 0

-- for a rule of the table, by the number of permits
module _ (holds : ℕ → Table → Type 0) where
  -- at the start, with the first pass, the table represents the machine after no steps
  abbrev pub OpensAsMachine : (ℕ → View) → Type 0
  OpensAsMachine first = (max : ℕ) → max ≤ 65535 → StandsAfter holds max (opening (max ∷ []) [] (first max)) []

  -- the load of a try by an idle pass is the machine's Load: if it finds 0, a refusal, and if it finds another number, Loaded
  abbrev pub LoadsAsMachine : Telling → Type 0
  LoadsAsMachine Tells = (max slots index : ℕ) (me : PassSeat) → IsIdle me.0.phase → IsMachineStep holds max index me (λ n. n) (Tells (step slots 0 0 0 none) me) (Load index)

  -- the compare-exchange of a try for one less, by a pass that has loaded the number, is the machine's Exchange, whether it wins or loses
  abbrev pub ExchangesAsMachine : Telling → Type 0
  ExchangesAsMachine Tells = (max slots index : ℕ) (me : PassSeat) (old new : ℕ) → me.0.phase ≡ phase.Loaded old → new + 1 ≡ old
      → IsMachineStep holds max index me (λ n. either (n == old) new n) (Tells (step slots 0 old new none) me) (Exchange index)

  -- the add of a release by an idle pass that holds a permit is the machine's Add
  abbrev pub AddsAsMachine : Telling → Type 0
  AddsAsMachine Tells = (max slots index : ℕ) (me : PassSeat) → IsIdle me.0.phase → let_go_count me.0.number me.0.seen < taken_count me.0.number me.0.seen
      → IsMachineStep holds max index me (λ n. (n + 1) % 2 ^ 64) (Tells (step slots 0 1 0 none) me) (Add index)

  -- the add of 0 of a retire by an idle pass that holds a permit is the machine's Retire
  abbrev pub RetiresAsMachine : Telling → Type 0
  RetiresAsMachine Tells = (max slots index : ℕ) (me : PassSeat) → IsIdle me.0.phase → let_go_count me.0.number me.0.seen < taken_count me.0.number me.0.seen
      → IsMachineStep holds max index me (λ n. (n + 0) % 2 ^ 64) (Tells (step slots 0 0 0 none) me) (Retire index)

  -- the add of a raise by an idle pass that has retired a permit is the machine's Raise
  abbrev pub RaisesAsMachine : Telling → Type 0
  RaisesAsMachine Tells = (max slots index : ℕ) (me : PassSeat) → IsIdle me.0.phase → raised_count me.0.number me.0.seen < retired_count me.0.number me.0.seen
      → IsMachineStep holds max index me (λ n. (n + 1) % 2 ^ 64) (Tells (step slots 0 1 0 none) me) (Raise index)

  -- a load by a pass in this phase is none of the machine's steps
  abbrev pub LooksAsNoStep : (Phase → Type 0) → Telling → Type 0
  LooksAsNoStep Stands Tells = (max slots index : ℕ) (me : PassSeat) → Stands me.0.phase → IsNoMachineStep holds max index me (Tells (step slots 0 0 0 none) me)

  -- an idle pass is split, which is none of the machine's steps
  abbrev pub SplitsAsNoStep : (View → View) → (View → View) → Type 0
  SplitsAsNoStep left right = (max index : ℕ) (v : View) → IsIdle v.phase → (s : Table) (steps : List Step) → StandsAfter holds max s steps → IsPassAt s.views index v
      → StandsAfter holds max (record { words = s.words; homes = s.homes; views = slice_set s.views index (left v) ++ right v ∷ [] }) steps

  -- a pass enters that was split from no other, and this is none of the machine's steps
  abbrev pub EntersAsNoStep : (ℕ → View) → Telling → Type 0
  EntersAsNoStep first Tells = (max slots : ℕ) (s : Table) (steps : List Step) → StandsAfter holds max s steps
      → (w : View) × Tells (step slots 0 0 0 none) (first max, []) (slice_index s.words 0) (w, []) × StandsAfter holds max (record { words = s.words; homes = s.homes; views = s.views ++ w ∷ [] }) steps

  -- an idle pass takes in another that holds nothing and has no retired permit, which is none of the machine's steps
  abbrev pub JoinsAsNoStep : (View → View → View) → View → Type 0
  JoinsAsNoStep both spent = (max index other : ℕ) (v w : View) → IsIdle v.phase → IsIdle w.phase → taken_count w.number w.seen ≡ let_go_count w.number w.seen → retired_count w.number w.seen ≡ raised_count w.number w.seen
      → (s : Table) (steps : List Step) → StandsAfter holds max s steps → IsPassAt s.views index v → ¬ (other ≡ index) → IsPassAt (slice_set s.views index (both v w)) other w
      → StandsAfter holds max (record { words = s.words; homes = s.homes; views = slice_set (slice_set s.views index (both v w)) other spent }) steps
