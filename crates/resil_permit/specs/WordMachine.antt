-- The word machine: one word and any number of callers, whose steps come in one order.
use Rattle.std.specs.Prelude.{◌≡◌, ℕ, ◌+◌, ◌-◌, ◌<◌, ◌≤◌, ◌==◌, Bool, false, if◌then◌else◌, List, [], ◌∷◌, ◌++◌, length, Option, None, Some}
use Rattle.resil_permit.specs.declared.event.PermitEvent.{PermitEvent}
use Rattle.resil_permit.specs.declared.event.PermitEvent.TheVariants.{Took, Gave, Refused, Retired, Raised}
use Rattle.resil_permit.specs.declared.step.Step.{Step}
use Rattle.resil_permit.specs.declared.step.Step.TheVariants.{Load, Exchange, Add, Retire, Raise}
use Rattle.resil_permit.specs.declared.step.Shown.{Shown}
use Rattle.resil_permit.specs.declared.step.Shown.TheVariants as show
use Rattle.resil_permit.specs.declared.word_machine.CallerState.{CallerState}
use Rattle.resil_permit.specs.declared.word_machine.CallerState.TheVariants.{Idle, Loaded}
use Rattle.resil_permit.specs.History.{taken_count, retired_count, raised_count, let_go_count, holders, in_use_count, IsLegal}

-- the word, whether each caller is idle or has loaded a number, and the permit history so far
pub record Machine : Type 0 where
  pub word : ℕ
  pub callers : ℕ → CallerState
  pub events : List PermitEvent

-- at first all permits are free and every caller is idle
abbrev pub start : ℕ → Machine
start max = record { word = max; callers = λ _. Idle; events = [] }

abbrev pub caller_of : Step → ℕ
caller_of (Load c) = c
caller_of (Exchange c) = c
caller_of (Add c) = c
caller_of (Retire c) = c
caller_of (Raise c) = c

-- an idle caller loads, one that has loaded exchanges, an idle one that holds a permit adds or retires, and an idle one that has retired a permit raises
abbrev pub CanMake : Machine → Step → Type 0
CanMake m (Load c) = m.callers c ≡ Idle
CanMake m (Exchange c) = (n : ℕ) × (m.callers c ≡ Loaded n)
CanMake m (Add c) = (m.callers c ≡ Idle) × (let_go_count c m.events < taken_count c m.events)
CanMake m (Retire c) = (m.callers c ≡ Idle) × (let_go_count c m.events < taken_count c m.events)
CanMake m (Raise c) = (m.callers c ≡ Idle) × (raised_count c m.events < retired_count c m.events)

-- why a step can't be made: the caller has loaded a number already
abbrev pub IsStillLoaded : Machine → Step → Type 0
IsStillLoaded m (Exchange c) = ⊥
IsStillLoaded m step = (n : ℕ) × (m.callers (caller_of step) ≡ Loaded n)

-- it has loaded none
abbrev pub IsNotLoaded : Machine → Step → Type 0
IsNotLoaded m (Exchange c) = m.callers c ≡ Idle
IsNotLoaded m _ = ⊥

-- it holds no permit
abbrev pub IsNotHolding : Machine → Step → Type 0
IsNotHolding m (Add c) = (m.callers c ≡ Idle) × (taken_count c m.events ≤ let_go_count c m.events)
IsNotHolding m (Retire c) = (m.callers c ≡ Idle) × (taken_count c m.events ≤ let_go_count c m.events)
IsNotHolding m _ = ⊥

-- it has retired no permit that it has not raised again
abbrev pub IsNotRetired : Machine → Step → Type 0
IsNotRetired m (Raise c) = (m.callers c ≡ Idle) × (retired_count c m.events ≤ raised_count c m.events)
IsNotRetired m _ = ⊥

-- whether the word is what the caller loaded
abbrev pub is_current : ℕ → CallerState → Bool
is_current word Idle = false
is_current word (Loaded n) = word == n

-- what a step shows
abbrev pub shown_by : Machine → Step → Shown
shown_by m (Load c) = if m.word == 0 then show.Refused else show.Loaded
shown_by m (Exchange c) = if is_current m.word (m.callers c) then show.Took else show.Lost
shown_by m (Add c) = show.Gave
shown_by m (Retire c) = show.Retired
shown_by m (Raise c) = show.Raised

-- the callers, with the state of c replaced by this one
abbrev pub with_caller : (ℕ → CallerState) → ℕ → CallerState → ℕ → CallerState
with_caller callers c state d = if d == c then state else callers d

-- what a step that shows this does to the machine
abbrev pub after_shown : Machine → ℕ → Shown → Machine
after_shown m c show.Loaded = record { word = m.word; callers = with_caller m.callers c (Loaded m.word); events = m.events }
after_shown m c show.Refused = record { word = m.word; callers = m.callers; events = m.events ++ Refused c ∷ [] }
after_shown m c show.Took = record { word = m.word - 1; callers = with_caller m.callers c Idle; events = m.events ++ Took c ∷ [] }
after_shown m c show.Lost = record { word = m.word; callers = with_caller m.callers c Idle; events = m.events }
after_shown m c show.Gave = record { word = m.word + 1; callers = m.callers; events = m.events ++ Gave c ∷ [] }
after_shown m c show.Retired = record { word = m.word; callers = m.callers; events = m.events ++ Retired c ∷ [] }
after_shown m c show.Raised = record { word = m.word + 1; callers = m.callers; events = m.events ++ Raised c ∷ [] }

abbrev pub after_step : Machine → Step → Machine
after_step m step = after_shown m (caller_of step) (shown_by m step)

abbrev pub CanMakeAll : Machine → List Step → Type 0
CanMakeAll m [] = Unit {0}
CanMakeAll m (step ∷ steps) = CanMake m step × CanMakeAll (after_step m step) steps

abbrev pub after_steps : Machine → List Step → Machine
after_steps m [] = m
after_steps m (step ∷ steps) = after_steps (after_step m step) steps

-- what the steps show, in order
abbrev pub all_shown : Machine → List Step → List Shown
all_shown m [] = []
all_shown m (step ∷ steps) = shown_by m step ∷ all_shown (after_step m step) steps

-- the event that a step was, if it was one
abbrev pub event_shown : ℕ → Shown → Option PermitEvent
event_shown c show.Loaded = None
event_shown c show.Refused = Some (Refused c)
event_shown c show.Took = Some (Took c)
event_shown c show.Lost = None
event_shown c show.Gave = Some (Gave c)
event_shown c show.Retired = Some (Retired c)
event_shown c show.Raised = Some (Raised c)

-- in any order of the steps of any callers, the history is legal, the word and the holders add up to the permits in use, and no more than
-- max are in use
abbrev pub EveryInterleaving : Type 0
EveryInterleaving = (max : ℕ) (steps : List Step) → CanMakeAll (start max) steps
    → let m = after_steps (start max) steps in IsLegal max m.events × (m.word + length (holders m.events) ≡ in_use_count max m.events) × (in_use_count max m.events ≤ max)
