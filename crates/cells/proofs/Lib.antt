pub mod Counting
pub mod Flattening
pub mod Putting
pub mod Turning
