pub mod Codes
pub mod Images
pub mod Read
pub mod Told
