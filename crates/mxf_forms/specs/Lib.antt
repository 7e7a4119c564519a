pub mod Forms
pub mod Hexadecimal
pub mod Writing
