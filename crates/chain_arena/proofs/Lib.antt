pub mod Prefix
pub mod Verdict
