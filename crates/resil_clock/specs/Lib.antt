pub mod Readings
pub mod Waits
