pub mod Runs
pub mod Links
pub mod OneChain
pub mod Find
pub mod Pairing
pub mod Listings
