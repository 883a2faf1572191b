pub mod Bulkhead
pub mod NoPermit
pub mod Execution
pub mod Call
pub mod Holding
-- what the public clauses cite about names, permits and callees
pub use Rattle.resil_name.specs.Name
pub use Rattle.resil_permit.specs.declared.event.PermitEvent
pub use Rattle.resil_permit.specs.History
pub use Rattle.resil_permit.specs.Knowledge
pub use Rattle.resil_permit.specs.Passes
pub use Rattle.resil_permit.specs.TryAcquire
pub use Rattle.resil_permit.specs.Waits
pub use Rattle.resil_retry.specs.Script
