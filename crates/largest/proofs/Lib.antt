pub mod Largest
pub mod Demands
