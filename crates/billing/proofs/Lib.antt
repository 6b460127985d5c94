pub mod Prices
pub mod Tallies
pub mod Making
pub mod Placed
