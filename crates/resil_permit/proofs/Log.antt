-- The laws of one log with many seats.
pub mod Prefixes
pub mod Places
pub mod Seats
