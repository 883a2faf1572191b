pub mod Chain
pub mod Head
pub mod Rows
pub mod RunFields
pub mod Runs
pub mod WorkedHeads
