pub mod Bounding
pub mod Determined
pub mod Endings
mod Examples
pub mod RowBounds
pub mod Summing
pub mod Walked
