pub mod PlainWords
pub mod Roomy
pub mod Written
