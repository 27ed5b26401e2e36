pub mod Extra
pub mod Pointers
