pub mod Forward
pub mod Laws
pub mod Sound
pub mod Agree
