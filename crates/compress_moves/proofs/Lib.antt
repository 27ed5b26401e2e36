pub mod Place
pub mod Numbers
pub mod Renewing
pub mod Names
pub mod Moving
pub mod Shrinks
