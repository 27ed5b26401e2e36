pub mod Neighbours
pub mod Passes
pub mod Sides
