pub mod Ahead
pub mod Rest
