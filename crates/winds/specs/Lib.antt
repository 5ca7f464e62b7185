pub mod Winds
pub mod WindLaws
