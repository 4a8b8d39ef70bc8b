pub mod Below
pub mod Block
pub mod Tree
pub mod Unchanged
pub mod Steady
pub mod Onward
