mod BudgetLaws
pub mod RetryLaws
mod SharedLaws
