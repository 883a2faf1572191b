pub mod AtOnceLaws
pub mod AtOnceStepLaws
pub mod CauseLaws
pub mod EndLaws
pub mod FinalLaws
pub mod FinishLaws
pub mod FirstLaws
pub mod HistoryLaws
pub mod IdleLaws
mod ListLaws
pub mod LoadLaws
pub mod PoolLaws
pub mod RunningLaws
pub mod SoundLaws
pub mod SubmitLaws
pub mod TakeLaws
mod Words
