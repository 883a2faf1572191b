pub mod Head
pub mod Rows
pub mod Weave
pub mod WorkedHeads
pub mod Woven
