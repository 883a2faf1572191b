pub mod Command
pub mod Judge
pub mod Read
pub mod Numbers
