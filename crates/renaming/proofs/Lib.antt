pub mod Place
pub mod Orders
pub mod Relocated
pub mod CompressWith
pub mod Determined
