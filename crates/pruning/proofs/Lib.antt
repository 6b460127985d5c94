pub mod Steps
pub mod Counts
pub mod Turns
pub mod NumberTurns
