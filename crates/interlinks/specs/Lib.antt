pub mod Sides
pub mod Stacks
