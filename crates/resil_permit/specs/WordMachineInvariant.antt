-- How the running word machine relates to the word machine.
use Rattle.std.specs.Prelude.{◌≡◌, ℕ, ◌+◌, ◌<◌, ◌≤◌, List, length, slice_index_or, Result, Ok, Err}
use Rattle.resil_permit.specs.declared.step.Step.{Step}
use Rattle.resil_permit.specs.declared.step.Shown.{Shown}
use Rattle.resil_permit.specs.declared.word_machine.CallerState.TheVariants.{Idle, Loaded}
use Rattle.resil_permit.specs.declared.word_machine.Caller.{Caller}
use Rattle.resil_permit.specs.declared.word_machine.StepError.{StepError}
use Rattle.resil_permit.specs.declared.word_machine.StepError.TheVariants.{NotLoaded, NotHolding, StillLoaded, NotRetired}
use Rattle.resil_permit.specs.declared.word_machine.WordMachine.{WordMachine}
use Rattle.resil_permit.specs.History.{taken_count, retired_count, raised_count, let_go_count, holders, in_use_count, IsLegal}
use Rattle.resil_permit.specs.WordMachine.{Machine, CanMake, IsNotLoaded, IsNotHolding, IsStillLoaded, IsNotRetired, shown_by, after_step}

-- the law that every run keeps, and that no caller has loaded 0
pub record IsSound (max : ℕ) (m : Machine) : Type 0 where
  pub legal : IsLegal max m.events
  pub counts : m.word + length (holders m.events) ≡ in_use_count max m.events
  pub within : in_use_count max m.events ≤ max
  pub some_free : (c n : ℕ) → m.callers c ≡ Loaded n → 0 < n

abbrev pub fresh_caller : Caller
fresh_caller = record { state = Idle; held = 0; retired = 0 }

-- a caller has loaded what the machine says, holds what it took and has neither given back nor retired, and has retired what it has not raised again
pub record Matches (m : Machine) (c : ℕ) (caller : Caller) : Type 0 where
  pub state : caller.state ≡ m.callers c
  pub counts : (caller.held + let_go_count c m.events ≡ taken_count c m.events) × (caller.retired + raised_count c m.events ≡ retired_count c m.events)

-- the running machine represents this machine
pub record Follows (max : ℕ) (m : Machine) (word : ℕ) (callers : List Caller) : Type 0 where
  pub few : max ≤ 65535
  pub sound : IsSound max m
  pub same_word : word ≡ m.word
  pub all_there : length callers ≡ 65536
  pub each : (c : ℕ) → c < 65536 → Matches m c (slice_index_or callers c fresh_caller)

-- the reason for which a step can't be made is the running machine's
abbrev pub IsStuck : Machine → Step → StepError → Type 0
IsStuck m step NotLoaded = IsNotLoaded m step
IsStuck m step NotHolding = IsNotHolding m step
IsStuck m step StillLoaded = IsStillLoaded m step
IsStuck m step NotRetired = IsNotRetired m step

-- a step that was made is the machine's, and one that was refused can't be made
abbrev pub Answers : ℕ → Machine → Step → ℕ → List Caller → Result Shown StepError → Type 0
Answers max m step word callers (Ok shown) = CanMake m step × (shown ≡ shown_by m step) × Follows max (after_step m step) word callers
Answers max m step word callers (Err stuck) = IsStuck m step stuck

-- the running machine represents some machine
abbrev pub IsRunning : WordMachine → Type 0
IsRunning running = (max : ℕ) × (m : Machine) × Follows max m running.word running.callers.items

-- whatever machine the running one represents, it makes the step as that machine does
abbrev pub MakesStep : Step → WordMachine → WordMachine → Result Shown StepError → Type 0
MakesStep step old new result =
    (max : ℕ) (m : Machine) → Follows max m old.word old.callers.items → Answers max m step new.word new.callers.items result
