pub mod Counts
pub mod Finding
pub mod Settings
