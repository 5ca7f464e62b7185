pub mod Filling
pub mod Pairing
