pub mod JobLaws
pub mod MachineLaws
