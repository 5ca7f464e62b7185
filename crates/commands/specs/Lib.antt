pub mod Commands
pub mod Faults
