pub mod Fresh
pub mod Found
