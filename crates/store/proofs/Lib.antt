pub mod Climb
pub mod Same
