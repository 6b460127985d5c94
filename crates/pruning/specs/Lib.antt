pub mod Passes
pub mod Numbers
