pub mod Readings
pub mod Holdings
pub mod HoldingOrder
