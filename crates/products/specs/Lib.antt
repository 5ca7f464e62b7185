pub mod Receipts
pub mod Closings
pub mod Opens
pub mod Products
pub mod Holding
pub mod Calls
pub mod Answers
pub mod Plans
