pub mod Report
pub mod Removed
pub mod Drainable
pub mod Overflow
pub mod ItemWords
pub mod DrainsChain
