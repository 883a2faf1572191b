-- The lock of a pool: what its log is made of, what it protects, and what one turn does.
pub mod LoggedEvent
pub mod Protocol
pub mod Turn
pub use LoggedEvent.*
pub use Protocol.*
pub use Turn.*
