pub mod Answer
pub mod Examples
pub mod Hitting
pub mod inner
