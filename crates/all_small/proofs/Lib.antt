pub mod Among
pub mod Packed
pub mod Table
pub mod Facts
pub mod Candidates
pub mod SmallArenas
pub mod Determined
pub mod SmallCall
