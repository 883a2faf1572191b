-- What contracts see of a bulkhead, and what its results say of its permits.
use Rattle.std.specs.Prelude.{ℕ, Bool, true, false, List}
use Rattle.resil_bulkhead.specs.declared.error.BulkheadError.{BulkheadError}
use Rattle.resil_bulkhead.specs.declared.error.BulkheadError.TheVariants.{Memory, TooManyPermits}
use Rattle.resil_permit.specs.declared.permits.Attempt.{Attempt}
use Rattle.resil_permit.specs.declared.permits.Attempt.TheVariants.{Taken, Full}
use Rattle.resil_permit.specs.declared.permits.PermitError.{PermitError}
use Rattle.resil_permit.specs.declared.permits.PermitError.TheVariants as permit
use Rattle.resil_permit.specs.Passes.{Source}

-- the bytes of its name, and its permits
pub record BulkheadView : Type 0 where
  pub name : List ℕ
  pub permits : Source

-- the error of a bulkhead that corresponds to an error of its permits
abbrev pub error_of : PermitError → BulkheadError
error_of permit.Memory = Memory
error_of permit.TooManyPermits = TooManyPermits

-- an `enter` that returned true acquired a permit, and one that returned false found none free
abbrev pub attempt_of : Bool → Attempt
attempt_of true = Taken
attempt_of false = Full
