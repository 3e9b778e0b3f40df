pub mod Values
pub mod Bounds
pub mod Rows
pub mod Walking
pub mod Answer
pub mod Examples
pub mod inner
