pub mod Map
pub mod Layers
pub mod Extents
pub mod Words
