pub mod Laying
pub mod Counting
pub mod Answering
pub mod Holding
pub mod Adding
pub mod Running
pub mod Renoting
pub mod Demands
