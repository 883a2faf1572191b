pub mod Bulkheads
pub mod Neighbours
