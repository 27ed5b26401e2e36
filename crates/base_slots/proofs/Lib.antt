pub mod Removed
pub mod Removable
