pub mod OnScreen
pub mod Progress
