pub mod Records
pub mod Drafts
pub mod Asked
