pub mod EventLaws
pub mod HistoryLaws
pub mod PlayLaws
pub mod PoolLaws
pub mod TimedLaws
pub mod VersionLaws
mod Words
