pub mod Spelling
pub mod Growing
pub mod Forms
pub mod Reading
pub mod Examples
pub mod inner
