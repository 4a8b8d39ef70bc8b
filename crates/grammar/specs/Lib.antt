pub mod Machines
pub mod Machine
pub mod Joins
pub mod Theorems
