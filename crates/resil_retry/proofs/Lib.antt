pub mod EqualityLaws
pub mod GrowthLaws
pub mod KindLaws
pub mod RetryLaws
pub mod CallLaws
pub mod RecordedLaws
pub mod WorkedExamples
