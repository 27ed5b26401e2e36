pub mod AllFree
pub mod Shape
