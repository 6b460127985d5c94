pub mod Masks
pub mod Bodies
pub mod Members
pub mod Leaving
