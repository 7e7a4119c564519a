pub mod SourceLaws
pub mod HoldingLaws
pub mod AllNotesLaws
pub mod AloneLaws
