pub mod Sessions
pub mod Refusals
pub mod Seats
pub mod Servers
