mod Examples
pub mod CoverSteps
pub mod Critical
pub mod Ascending
pub mod Rooted
pub mod Nodes
pub mod Branching
pub mod Whole
