pub mod Pieces
pub mod Whole
pub mod Seen
pub mod Formulas
pub mod Lengths
pub mod Lawful
pub mod Made
pub mod WholeTables
