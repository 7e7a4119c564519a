pub mod TimecodeWords
pub mod Positions
pub mod Gone
pub mod Stored
pub mod Bounds
pub mod Coverage
pub mod Spans
pub mod Shown
