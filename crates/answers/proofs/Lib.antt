pub mod Exports
pub mod Refused
