pub mod Coverings
pub mod Examples
pub mod Within
pub mod inner
