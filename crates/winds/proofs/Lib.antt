pub mod Barbs
pub mod Places
pub mod Wholes
