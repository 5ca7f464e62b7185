pub mod Facts
pub mod Finding
