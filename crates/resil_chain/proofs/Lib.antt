pub mod HeadLaws
pub mod RunFieldLaws
pub mod RunLaws
