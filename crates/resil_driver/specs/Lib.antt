pub mod Answer
pub mod Command
pub mod Program
pub mod Run
