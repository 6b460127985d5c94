pub mod Texts
pub mod Numbers
pub mod Answers
pub mod Long
pub mod Bound
