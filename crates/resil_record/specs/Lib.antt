pub mod Body
pub mod Row
pub mod Text
