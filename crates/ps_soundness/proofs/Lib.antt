pub mod Choices
pub mod Demands
pub mod Back
pub mod Feasible
pub mod Safe
pub mod Counter
