pub mod Good
pub mod Edits
pub mod Keeping
pub mod Living
pub mod Shown
