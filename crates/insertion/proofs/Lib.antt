pub mod Chains
pub mod Grown
pub mod Places
pub mod InsertPlaces
pub mod NoPlace
pub mod Full
pub mod Empty
