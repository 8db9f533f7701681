pub mod Letters
pub mod Edits
pub mod Transform
pub mod Entries
pub mod Laws
pub mod Commutes
