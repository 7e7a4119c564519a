pub mod Progress
pub mod Restoring
pub mod RestoredFirst
pub mod WayEnds
