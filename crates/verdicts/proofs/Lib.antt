pub mod SomeBelow
pub mod Formulas
pub mod Threes
pub mod Standing
pub mod Decided
pub mod Sound
pub mod Agree
