pub mod WellFormed
pub mod ReadsOnly
pub mod Verdict
pub mod Eleven
