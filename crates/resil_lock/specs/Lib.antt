pub mod BetweenSteps
pub mod Lock
pub mod Log
pub mod Work
