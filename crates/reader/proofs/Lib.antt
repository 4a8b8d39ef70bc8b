pub mod Moves
pub mod Compose
pub mod Counts
