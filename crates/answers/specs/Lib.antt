pub mod Answered
pub mod Words
