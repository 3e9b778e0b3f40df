pub mod Builder
pub mod Starts
pub mod View
