mod Examples
pub mod Linked
pub mod Search
pub mod Siblings
