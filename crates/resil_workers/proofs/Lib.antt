pub mod RowLaws
pub mod ThreadLaws
pub mod BatchLaws
pub mod HoldLaws
