pub mod NoPermits
pub mod Visits
