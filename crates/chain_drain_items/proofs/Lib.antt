pub mod Listing
pub mod Items
pub mod Draining
