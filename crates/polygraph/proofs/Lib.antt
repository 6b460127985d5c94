pub mod Marks
pub mod ReadTable
pub mod Filling
pub mod Decoding
pub mod Cabinets
pub mod RowWords
pub mod ReadEdges
pub mod Timing
