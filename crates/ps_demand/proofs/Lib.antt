pub mod Atoms
pub mod Demanding
pub mod Giving
pub mod PartedDemands
pub mod Picked
pub mod Pooling
pub mod Scanning
pub mod Sent
