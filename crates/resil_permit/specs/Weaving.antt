-- What a weaving returns, and why it is refused.
use Rattle.std.specs.Prelude.{◌≡◌, ℕ, ◌+◌, ◌<◌, ◌≤◌, List, ◌∷◌, ◌++◌, length}
use Rattle.resil_permit.specs.declared.step.Step.{Step}
use Rattle.resil_permit.specs.declared.word_machine.StepError.{StepError}
use Rattle.resil_permit.specs.declared.word_machine.StepError.TheVariants as stuck
use Rattle.resil_permit.specs.declared.interleaving.WeaveError.{WeaveError}
use Rattle.resil_permit.specs.declared.interleaving.WeaveError.TheVariants.{Memory, TooManyPermits, NotLoaded, NotHolding, StillLoaded, NotRetired}
use Rattle.resil_permit.specs.declared.interleaving.Woven.{Woven}
use Rattle.resil_permit.specs.History.{holders, in_use_count, IsLegal}
use Rattle.resil_permit.specs.WordMachine.{Machine, start, CanMakeAll, after_steps, all_shown, IsNotLoaded, IsNotHolding, IsStillLoaded, IsNotRetired}

-- all steps were made: what they showed, their events and the last word are the word machine's
pub record IsWoven (max : ℕ) (steps : List Step) (woven : Woven) : Type 0 where
  pub few : max ≤ 65535
  pub made : CanMakeAll (start max) steps
  pub shown : woven.shown.items ≡ all_shown (start max) steps
  pub events : woven.events.items ≡ (after_steps (start max) steps).events
  pub word : woven.word ≡ (after_steps (start max) steps).word

-- the permit history is legal, the free permits and those held add up to the permits in use, and no more than max are in use
abbrev pub KeepsLaw : ℕ → Woven → Type 0
KeepsLaw max woven = IsLegal max woven.events.items × (woven.word + length (holders woven.events.items) ≡ in_use_count max woven.events.items) × (in_use_count max woven.events.items ≤ max)

-- all steps before the place, counted from 1, can be made, and the step at that place can't, for this reason
pub record IsFirstStuck (max : ℕ) (steps : List Step) (IsStuck : Machine → Step → Type 0) (place : ℕ) : Type 0 where
  pub front : List Step
  pub step : Step
  pub back : List Step
  pub parts : steps ≡ front ++ step ∷ back
  pub place_is : place ≡ length front + 1
  pub made : CanMakeAll (start max) front
  pub is_stuck : IsStuck (after_steps (start max) front) step

abbrev pub error_at : StepError → ℕ → WeaveError
error_at stuck.NotLoaded place = NotLoaded place
error_at stuck.NotHolding place = NotHolding place
error_at stuck.StillLoaded place = StillLoaded place
error_at stuck.NotRetired place = NotRetired place

-- each error with its cause
abbrev pub IsRefusedFor : ℕ → List Step → WeaveError → Type 0
IsRefusedFor max steps Memory = max ≤ 65535
IsRefusedFor max steps TooManyPermits = 65535 < max
IsRefusedFor max steps (NotLoaded place) = (max ≤ 65535) × IsFirstStuck max steps IsNotLoaded place
IsRefusedFor max steps (NotHolding place) = (max ≤ 65535) × IsFirstStuck max steps IsNotHolding place
IsRefusedFor max steps (StillLoaded place) = (max ≤ 65535) × IsFirstStuck max steps IsStillLoaded place
IsRefusedFor max steps (NotRetired place) = (max ≤ 65535) × IsFirstStuck max steps IsNotRetired place
