pub mod Back
pub mod Parts
pub mod Sets
pub mod Found
pub mod Only
pub mod Going
