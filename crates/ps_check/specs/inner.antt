pub mod Branches
pub mod Index
pub mod Stages
