pub mod Steps
pub mod Walks
pub mod AnyState
pub mod ChainOrder
