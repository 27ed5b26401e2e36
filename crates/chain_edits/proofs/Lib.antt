pub mod Around
pub mod Reading
pub mod Replies
pub mod Sides
