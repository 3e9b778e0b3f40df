-- What the clauses of private functions cite, and no public contract.
pub mod Commands
pub mod Numbers
