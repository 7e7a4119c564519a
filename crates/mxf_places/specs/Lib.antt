pub mod Words
pub mod Held
pub mod Claims
pub mod Named
pub mod FirstClaims
pub mod Fills
pub mod AtHand
pub mod Heads
