pub mod Faults
pub mod Books
pub mod Words
pub mod PassLaws
pub mod WordLaws
