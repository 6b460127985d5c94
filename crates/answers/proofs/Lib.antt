pub mod Answering
pub mod Holding
pub mod Rooms
pub mod Clocking
