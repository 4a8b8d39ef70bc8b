pub mod Elements
pub mod First
pub mod Found
pub mod Split
pub mod Outcome
pub mod Written
