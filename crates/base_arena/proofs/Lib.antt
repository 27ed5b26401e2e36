pub mod Counting
pub mod Walk
pub mod Refusals
