pub mod Best
pub mod Located
