pub mod Sizes
pub mod Putting
