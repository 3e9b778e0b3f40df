pub mod Examples
pub mod Lexing
pub mod inner
