pub mod Lives
pub mod Law
pub mod Worked
