pub mod Commands
pub mod Filling
pub mod Answers
