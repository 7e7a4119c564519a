pub mod Beginnings
pub mod Saving
pub mod Kept
pub mod Sources
