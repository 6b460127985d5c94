pub mod Putting
pub mod Decision
