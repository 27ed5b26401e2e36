pub mod Lent
pub mod Layout
pub mod Exchange
