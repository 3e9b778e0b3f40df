-- What only clauses within the crate speak of.
pub mod Ahead
pub mod Digits
