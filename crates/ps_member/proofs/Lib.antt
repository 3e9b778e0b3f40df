pub mod Going
pub mod Knowing
pub mod Walking
