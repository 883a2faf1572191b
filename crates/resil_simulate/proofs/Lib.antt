mod CommandLaws
pub mod HeadLaws
pub mod HistoryLaws
pub mod LegalityLaws
pub mod LoadLaws
pub mod NumberLaws
pub mod QueueLaws
pub mod RunLaws
pub mod SpentLaws
pub mod TableLaws
pub mod TallyLaws
mod Words
