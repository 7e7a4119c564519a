pub mod FoundLaws
pub mod IdentifiedLaws
pub mod OnlyFound
pub mod ResolvedLaws
pub mod UnreadableLaws
