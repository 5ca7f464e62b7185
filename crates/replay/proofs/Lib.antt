pub mod Telling
pub mod Begun
pub mod Running
