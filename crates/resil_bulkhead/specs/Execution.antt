-- The outcomes of a call through a bulkhead, and what the call does with its permits and its function.
use Rattle.std.specs.Prelude.{◌≡◌, ◌⊎◌, List, ◌∷◌, [], ◌++◌, Option, Some, None}
use Rattle.resil_permit.specs.declared.event.PermitEvent.TheVariants.{Took, Gave}
use Rattle.resil_permit.specs.declared.permits.Attempt.TheVariants as tried
use Rattle.resil_permit.specs.Passes.{PassView, own_events, IsSamePass, AppendsEvent}
use Rattle.resil_permit.specs.TryAcquire.{IsTry}
use Rattle.resil_retry.specs.declared.outcome.Kind.TheVariants.{Full}
use Rattle.resil_retry.specs.declared.outcome.Outcome.{Outcome}
use Rattle.resil_retry.specs.declared.outcome.Outcome.TheVariants.{Error}
use Rattle.resil_retry.specs.Script.{first, rest}

-- a pass acquired a permit, so fewer were held before than were in use, and released it; what it saw in
-- between is left open
pub record HasHeldPermit (p q : PassView) : Type 0 where
  pub inside : PassView
  pub same : IsSamePass p inside
  pub took : IsTry p inside tried.Taken
  pub gave : AppendsEvent inside (Gave inside.number) (λ _. Unit {0}) q
  pub own : own_events q ≡ own_events p ++ Took p.number ∷ Gave p.number ∷ []

-- one call of a function with this script before and after it
pub record IsOneCall (old new : List Outcome) (outcome : Outcome) : Type 0 where
  pub gave : first old ≡ Some outcome
  pub left : new ≡ rest old

-- the call was permitted: the function was called once, under a permit that was released afterwards
pub record WasPermitted (p q : PassView) (old new : List Outcome) (outcome : Outcome) : Type 0 where
  pub visited : HasHeldPermit p q
  pub called : IsOneCall old new outcome

-- all permits in use were held, and the function wasn't called
pub record WasRefused {C : Type 0} (p q : PassView) (old new : C) (outcome : Outcome) : Type 0 where
  pub full : IsTry p q tried.Full
  pub error : outcome ≡ Error Full
  pub uncalled : new ≡ old

-- the one try was contended, and the function wasn't called
pub record WasContended {C : Type 0} (p q : PassView) (old new : C) : Type 0 where
  pub contended : IsTry p q tried.Contended
  pub uncalled : new ≡ old

-- a call was permitted or refused
abbrev pub IsExecuted : {C : Type 0} → (C → List Outcome) → PassView → PassView → C → C → Outcome → Type 0
IsExecuted script p q old new outcome = WasPermitted p q (script old) (script new) outcome ⊎ WasRefused p q old new outcome

-- a call by one try was permitted, refused or contended
abbrev pub IsExecutedOnce : {C : Type 0} → (C → List Outcome) → PassView → PassView → C → C → Option Outcome → Type 0
IsExecutedOnce script p q old new (Some outcome) = IsExecuted script p q old new outcome
IsExecutedOnce script p q old new None = WasContended p q old new
