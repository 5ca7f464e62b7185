pub mod Steps
pub mod Pairs
pub mod Forms
pub mod Blocks
pub mod Classes
pub mod Codec
pub mod Rows
