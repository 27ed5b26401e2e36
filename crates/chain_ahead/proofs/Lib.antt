pub mod Ahead
pub mod Started
