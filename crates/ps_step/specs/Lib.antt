pub mod Steps
pub mod Closed
pub mod Places
pub mod Successors
pub mod Wide
pub mod Examples
pub mod inner
