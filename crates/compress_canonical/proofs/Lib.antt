pub mod Marks
pub mod Stack
pub mod Canonical
