pub mod InPlace
pub mod Search
pub mod LinkInPlace
pub mod ChainInPlace
pub mod ChainsInPlace
