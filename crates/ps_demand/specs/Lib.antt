pub mod Candidates
pub mod Demands
pub mod Hitting
pub mod Numbered
pub mod Pools
