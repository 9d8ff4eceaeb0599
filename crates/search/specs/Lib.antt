pub mod Promise
pub mod Layers
