pub mod Examples
pub mod Pairs
pub mod inner
