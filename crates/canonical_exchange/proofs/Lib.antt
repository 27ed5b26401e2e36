pub mod Traded
