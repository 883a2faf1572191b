pub mod BulkheadLaws
pub mod DocumentLaws
pub mod LayerLaws
pub mod OutputLaws
pub mod RangeLaws
