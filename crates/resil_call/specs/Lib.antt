pub mod Budget
pub mod Limit
pub mod Retry
pub mod Sharing
