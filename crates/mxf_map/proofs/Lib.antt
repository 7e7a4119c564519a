pub mod LayerLaws
pub mod MapLaws
pub mod MarkLaws
pub mod FitLaws
pub mod ExtentLaws
