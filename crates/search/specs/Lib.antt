pub mod Constraints
pub mod Steps
pub mod Orders
