pub mod EntriesLaws
pub mod RegistryLaws
