pub mod Told
pub mod Parts
pub mod Deeper
pub mod Held
