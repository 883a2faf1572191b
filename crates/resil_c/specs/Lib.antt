pub mod Book
pub mod PlainData
pub mod Handles
pub mod Retry
