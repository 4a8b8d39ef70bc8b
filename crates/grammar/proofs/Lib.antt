pub mod Stopping
pub mod Forward
pub mod Chains
pub mod Back
pub mod Places
pub mod Unique
