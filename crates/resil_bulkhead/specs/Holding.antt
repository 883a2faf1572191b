-- What a call does if it lends its function the pass that holds its permit.
use Rattle.std.specs.Prelude.{◌≡◌, ◌<◌, ◌∷◌, [], ◌++◌, Result, Ok, Err}
use Rattle.std.specs.Borrow.{Bor}
use Rattle.resil_permit.specs.declared.event.PermitEvent.TheVariants.{Took, Gave}
use Rattle.resil_permit.specs.declared.permits.Attempt.TheVariants as tried
use Rattle.resil_permit.specs.Passes.{Source, PassView, held_by, own_events, IsSamePass, AppendsEvent}
use Rattle.resil_permit.specs.TryAcquire.{IsTry}
use Rattle.resil_bulkhead.specs.declared.no_permit.NoPermit.{NoPermit}
use Rattle.resil_bulkhead.specs.NoPermit.{refused_try}

-- the function may be called with any pass of these permits that holds one. Nothing is said of a pass that holds none
abbrev pub CanRunUnder : Source → (Bor PassView → Type 0) → Type 0
CanRunUnder source CanCall = (lent : Bor PassView) → lent.now.source ≡ source → 0 < held_by lent.now → CanCall lent

-- a pass took a permit, was lent to the function, which returned this answer, and released the permit
pub record HasRunUnder {T : Type 0} (IsAnswer : Bor PassView → T → Type 0) (p q : PassView) (answer : T) : Type 0 where
  pub lent : Bor PassView
  pub same : IsSamePass p lent.now
  pub took : IsTry p lent.now tried.Taken
  pub answered : IsAnswer lent answer
  pub gave : AppendsEvent lent.now (Gave lent.now.number) (λ _. Unit {0}) q
  pub own : own_events q ≡ own_events p ++ Took p.number ∷ Gave p.number ∷ []

-- permitted: the function was called once, with the pass that held its permit; refused: all permits were held, and it wasn't called
abbrev pub IsCalledHolding : {T : Type 0} → (Bor PassView → T → Type 0) → PassView → PassView → Result T NoPermit → Type 0
IsCalledHolding IsAnswer p q (Ok answer) = HasRunUnder IsAnswer p q answer
IsCalledHolding IsAnswer p q (Err refused) = IsTry p q (refused_try refused)
