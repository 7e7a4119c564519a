pub mod AskedIndexes
pub mod AskedUnits
pub mod Contents
pub mod Exits
pub mod FoundUnits
pub mod Parts
pub mod Shifts
