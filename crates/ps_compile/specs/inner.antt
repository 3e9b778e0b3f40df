-- What only clauses within the crate speak of.
pub mod Compilable
pub mod Counts
pub mod Drafts
pub mod Inside
pub mod KeyLaws
pub mod Keys
pub mod Members
pub mod Near
pub mod Numbered
pub mod Plans
pub mod Routes
pub mod Settings
pub mod Weights
