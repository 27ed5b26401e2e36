pub mod SmallArenas
pub mod SmallArena
