pub mod Moves
pub mod Pairs
pub mod Views
