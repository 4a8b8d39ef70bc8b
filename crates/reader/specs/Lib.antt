pub mod Spells
pub mod Drafts
pub mod Parsed
