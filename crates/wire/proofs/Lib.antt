pub mod Passing
pub mod Summing
pub mod Coding
pub mod Skipping
pub mod Typed
