pub mod Inside
pub mod Fallback
pub mod Counting
pub mod RetriedObserved
pub mod RetryCounts
pub mod Jitter
