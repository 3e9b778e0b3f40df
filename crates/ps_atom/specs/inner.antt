-- What only clauses within the crate speak of.
pub mod Ends
pub mod Index
pub mod KeyLaws
pub mod Keys
pub mod Shares
pub mod Slots
