pub mod Covers
pub mod Searching
