pub mod Entries
pub mod Registry
pub use Rattle.resil_name.specs.Name
