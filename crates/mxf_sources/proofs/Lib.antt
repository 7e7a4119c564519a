pub mod PassedLaws
pub mod RangeLaws
