pub mod Hex
pub mod WordsOf
pub mod Characters
