pub mod Answered
pub mod Verifying
pub mod Waiting
