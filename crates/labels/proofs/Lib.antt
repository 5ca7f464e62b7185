pub mod Characters
pub mod Heads
pub mod Tails
pub mod Lists
