pub mod AtOnce
pub mod Due
pub mod Examples
pub mod IdleWorkers
pub mod Jobs
pub mod Load
pub mod Pool
pub mod Simulated
