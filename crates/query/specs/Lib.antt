pub mod Answers
pub mod Compiled
pub mod Limits
pub mod Refusals
pub mod Small
pub mod Theorems
