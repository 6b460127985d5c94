pub mod Keys
pub mod Numbers
pub mod Placing
pub mod Reading
pub mod Starts
pub mod Flat
