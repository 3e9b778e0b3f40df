pub mod Sum
pub mod Cond
