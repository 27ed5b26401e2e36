pub mod Relocated
pub mod Passed
