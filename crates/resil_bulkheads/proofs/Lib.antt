pub mod BulkheadsLaws
mod ListLaws
pub mod NeighboursLaws
