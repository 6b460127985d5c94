pub mod Clocks
pub mod Numbers
pub mod Settings
pub mod Stages
