pub mod Messages
pub mod Runs
pub mod OneRecord
pub mod Written
pub mod Nodes
pub mod OverPackets
pub mod Cyclic
