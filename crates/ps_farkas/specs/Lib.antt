pub mod Examples
pub mod inner
pub mod Refutes
