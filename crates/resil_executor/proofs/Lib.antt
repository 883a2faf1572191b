pub mod LogLaws
pub mod HistoryLaws
pub mod KeptLaws
pub mod OneLogLaws
pub mod StateLaws
pub mod SeatLaws
pub mod WorkLaws
