pub mod Packing
pub mod Sending
