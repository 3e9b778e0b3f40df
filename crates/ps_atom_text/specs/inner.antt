-- What only clauses within the crate speak of.
pub mod Ends
pub mod Faults
pub mod Last
pub mod Met
