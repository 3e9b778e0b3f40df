pub mod Accumulated
pub mod Bound
pub mod Common
pub mod Front
pub mod Named
