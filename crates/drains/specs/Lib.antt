pub mod Drainable
