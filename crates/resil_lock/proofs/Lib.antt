pub mod BetweenSteps
pub mod LogLaws
pub mod WeightLaws
pub mod LockSteps
pub mod RoundLaws
