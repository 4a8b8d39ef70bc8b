pub mod Tree
pub mod Steady
