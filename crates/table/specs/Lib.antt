pub mod Reading
pub mod Sorts
pub mod Formulas
pub mod Whole
pub mod Lawful
pub mod Lengths
pub mod Held
