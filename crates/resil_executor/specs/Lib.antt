pub mod Kept
pub mod Laws
pub mod Log
pub mod Turn
pub mod Seats
pub mod Dispatch
pub mod Words
pub mod Joining
