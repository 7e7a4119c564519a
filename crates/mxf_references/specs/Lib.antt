pub mod References
pub mod Readable
pub mod Targets
pub mod Resolved
pub mod ResolvedView
pub mod Identified
