-- What a refusal says of the pass that wanted a permit.
use Rattle.std.specs.Prelude.{◌≡◌, ℕ, Bool, true, false}
use Rattle.resil_clock.specs.Readings.{Readings}
use Rattle.resil_permit.specs.declared.permits.Attempt.{Attempt}
use Rattle.resil_permit.specs.declared.permits.Attempt.TheVariants as tried
use Rattle.resil_permit.specs.Passes.{PassView, held_by, retired_by, IsSamePass}
use Rattle.resil_permit.specs.TryAcquire.{IsTry}
use Rattle.resil_permit.specs.Waits.{HasWaited, HasWaitedBy}
use Rattle.resil_bulkhead.specs.declared.call_error.CallError.{CallError}
use Rattle.resil_bulkhead.specs.declared.call_error.CallError.TheVariants as call
use Rattle.resil_bulkhead.specs.declared.no_permit.NoPermit.{NoPermit}
use Rattle.resil_bulkhead.specs.declared.no_permit.NoPermit.TheVariants.{Full, Contended}

-- the result of the last try: no permit was free, or another pass came in between
abbrev pub refused_try : NoPermit → Attempt
refused_try Full = tried.Full
refused_try Contended = tried.Contended

-- the pass has seen why, and it holds and has retired what it did before
pub record IsRefused (p q : PassView) (refused : NoPermit) : Type 0 where
  pub same : IsSamePass p q
  pub tried : IsTry p q (refused_try refused)
  pub held : held_by q ≡ held_by p
  pub retired : retired_by q ≡ retired_by p

-- the pass has waited for at most `longest` nanoseconds, and by the clock for as long as it may, and no permit was free at its
-- last try either; it holds and has retired what it did before
pub record IsRefusedAtLast (HasSaid : Readings) (longest max : ℕ) (p q : PassView) : Type 0 where
  pub same : IsSamePass p q
  pub by_the_clock : (waited : PassView) × HasWaitedBy HasSaid longest max p waited tried.Full × IsTry waited q tried.Full
  pub tried : (waited : PassView) × HasWaited longest p waited × IsTry waited q tried.Full
  pub held : held_by q ≡ held_by p
  pub retired : retired_by q ≡ retired_by p

-- of the errors of a call under a bulkhead, a missing permit is a refusal, and the function's own error isn't
abbrev pub is_no_permit : {E : Type 0} → CallError E → Bool
is_no_permit (call.NoPermit _) = true
is_no_permit (call.Failed _) = false
