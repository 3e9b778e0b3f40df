pub mod Examples
pub mod Soundness
pub mod Walking
pub mod Weighing
