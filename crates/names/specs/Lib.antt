pub mod Sheet
pub mod Rule
pub mod Refusals
pub mod Labels
pub mod Held
pub mod Ranged
