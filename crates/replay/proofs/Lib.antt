pub mod Alls
pub mod Ordering
pub mod Placing
pub mod Running
pub mod Judging
