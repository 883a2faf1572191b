pub mod AnswerLaws
pub mod BulkheadLaws
pub mod ErrorLaws
pub mod HeadLaws
pub mod JobLaws
pub mod ReportLaws
