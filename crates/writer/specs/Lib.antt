pub mod Rows
pub mod Held
pub mod Room
pub mod Calls
pub mod Again
pub mod Runs
