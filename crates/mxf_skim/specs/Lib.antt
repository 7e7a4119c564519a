pub mod PassedOver
pub mod Preferring
pub mod Saving
