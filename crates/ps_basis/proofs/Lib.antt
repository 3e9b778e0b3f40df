pub mod Counter
pub mod Indexing
pub mod Infeasible
pub mod Rules
