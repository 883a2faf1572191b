-- What a call under a bulkhead does with its permits and its function.
use Rattle.std.specs.Prelude.{◌≡◌, Result, Ok, Err}
use Rattle.resil_permit.specs.declared.permits.Attempt.{Attempt}
use Rattle.resil_permit.specs.declared.permits.Attempt.TheVariants as tried
use Rattle.resil_permit.specs.Passes.{PassView}
use Rattle.resil_permit.specs.TryAcquire.{IsTry}
use Rattle.resil_bulkhead.specs.declared.no_permit.NoPermit.{NoPermit}
use Rattle.resil_bulkhead.specs.NoPermit.{refused_try}
use Rattle.resil_bulkhead.specs.Execution.{HasHeldPermit}

-- Permitted: the function was called exactly once, under a permit that was released afterwards. Refused: all permits were
-- held, or the one try was contended, and the function stayed as it was.
abbrev pub IsCalled : {C T : Type 0} → (C → T → C → Type 0) → PassView → PassView → C → C → Result T NoPermit → Type 0
IsCalled IsAnswer p q old new (Ok answer) = HasHeldPermit p q × IsAnswer old answer new
IsCalled IsAnswer p q old new (Err refused) = IsTry p q (refused_try refused) × (new ≡ old)

-- what the last try for a permit came to, by what the call answered
abbrev pub attempt_in : {T : Type 0} → Result T NoPermit → Attempt
attempt_in (Ok _) = tried.Taken
attempt_in (Err refused) = refused_try refused
