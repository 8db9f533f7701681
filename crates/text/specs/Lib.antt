pub mod Refusals
pub mod Texts
pub mod Documents
pub mod Coded
