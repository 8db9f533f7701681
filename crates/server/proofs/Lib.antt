pub mod Lists
pub mod Told
pub mod Seats
pub mod FreeSites
pub mod Replays
pub mod Takes
