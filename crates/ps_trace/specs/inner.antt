pub mod Columns
pub mod Known
pub mod Leaving
pub mod Paths
pub mod Picking
pub mod SoFars
pub mod Trying
