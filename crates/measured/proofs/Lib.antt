pub mod Running
pub mod Outcomes
