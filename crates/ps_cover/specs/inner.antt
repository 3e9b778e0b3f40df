pub mod Agreeing
pub mod Counts
pub mod Parts
pub mod Rests
pub mod Swaps
pub mod Tests
