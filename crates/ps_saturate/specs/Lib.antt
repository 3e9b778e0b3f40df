pub mod Patterns
pub mod Asked
pub mod Refuted
pub mod Answered
pub mod Saturated
pub mod Examples
pub mod inner
