-- What the clauses of private functions cite, and no public contract.
pub mod Settled
pub mod Judged
pub mod Graphs
pub mod Lines
