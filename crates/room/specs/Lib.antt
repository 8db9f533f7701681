pub mod Kept
pub mod Refusals
pub mod Events
pub mod Scenes
pub mod Cases
pub mod Reached
