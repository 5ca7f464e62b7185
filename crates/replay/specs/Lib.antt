pub mod Entries
pub mod States
pub mod Steps
pub mod Beginnings
pub mod Replays
