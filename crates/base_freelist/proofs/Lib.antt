pub mod Settled
pub mod Rising
pub mod Threaded
pub mod Canonicalized
